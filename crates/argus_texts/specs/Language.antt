-- What reading does with a part of a text: it is read, or it stops being the beginning of a form.
use Rattle.std.specs.Prelude.{◌≡◌, ◌≢◌, ℕ, List, [], ◌∷◌, ◌++◌, length}
use Rattle.argus_texts.specs.declared.stop.Stop.{Stop}
use Rattle.argus_texts.specs.declared.stop.Stop.TheVariants as stop

-- Things that have written forms: which of them are accepted, and what may come after a form.
pub record Language : Type 1 where
  pub Thing : Type 0
  pub Good : Thing → Type 0
  pub form : Thing → List ℕ
  pub Ends : Thing → List ℕ → Type 0

-- text is a form
pub record FormOf (L : Language) (text : List ℕ) : Type 0 where
  pub thing : L.Thing
  pub good : L.Good thing
  pub is : text ≡ L.form thing

-- text is the form of a thing and then rest
pub record Reads (L : Language) (text : List ℕ) (thing : L.Thing) (rest : List ℕ) : Type 0 where
  pub good : L.Good thing
  pub ends : L.Ends thing rest
  pub is : text ≡ L.form thing ++ rest

-- text begins with a form
pub record Starts (L : Language) (text : List ℕ) : Type 0 where
  pub thing : L.Thing
  pub rest : List ℕ
  pub reads : Reads L text thing rest

-- no form begins with front and goes on as back does: back's first byte already can't come, or, if
-- back is empty, no form has come
abbrev pub NoWay : Language → List ℕ → List ℕ → Type 0
NoWay L front [] = Starts L front → ⊥
NoWay L front (c ∷ back) = (more : List ℕ) → Starts L (front ++ c ∷ more) → ⊥

-- text stops being the beginning of a form where this many bytes are left
pub record Stops (L : Language) (text : List ℕ) (left : ℕ) : Type 0 where
  pub front : List ℕ
  pub back : List ℕ
  pub whole : text ≡ front ++ back
  pub count : length back ≡ left
  pub more : List ℕ
  pub way : FormOf L (front ++ more)
  pub no_way : NoWay L front back

-- P holds of the number of bytes that are left; out of memory says nothing
abbrev pub OnLeft : Stop → (ℕ → Type 0) → Type 0
OnLeft (stop.Left left) P = P left
OnLeft stop.Memory P = Unit {0}

-- the first byte, if there is one, passes the test
abbrev pub First : (ℕ → Type 0) → List ℕ → Type 0
First P [] = Unit {0}
First P (c ∷ x) = P c

-- the text doesn't begin with this byte
abbrev pub IsNot : ℕ → List ℕ → Type 0
IsNot wanted text = First (λ c. c ≢ wanted) text
