-- Stops of lines: at a missing shape, and as they are handed on.
use Rattle.std.proofs.{lemmas.Result.err_from_is_err_and, Common.{arith, ◌≡◌, ℕ, List, ◌++◌, length, sym, ap, ◌∙◌}}
use Rattle.std.proofs.Common.{subst, append_assoc, IfErr, Result}
use Rattle.std.specs.Prelude.{IsErrAnd, codes}
use Rattle.argus_texts.specs.{declared.stop.Stop.Stop, Language.{Language, OnLeft, Starts}, ShapeLanguages.BeginsNo}
use Rattle.argus_texts.specs.ShapeLanguages.{Shapes}
use Rattle.argus_texts.proofs.Exits.{passed}
use Rattle.argus_reading.specs.{Farther.{OnStop, line_stop}, Line.{Declares, Lacks}}
use Rattle.argus_reading.specs.declared.line_stop.LineStop.{LineStop}

-- a missing shape in a part behind the bytes is one of the whole
pub lacks_in : (P Q : List ℕ → Type 0) (a : List ℕ) (L M : Language) → ((f : List ℕ) → P f → Q (a ++ f))
    → ((u : List ℕ) → Starts M (a ++ u) → Starts L u) → (text rest : List ℕ) (left : ℕ) → text ≡ a ++ rest
    → Lacks P L rest left → Lacks Q M text left
lacks_in P Q a L M h b text rest left e s = record {
  front = a ++ s.front;
  back = s.back;
  whole = e ∙ ap (λ u. a ++ u) s.whole ∙ sym (append_assoc a s.front s.back);
  count = s.count;
  lead = h s.front s.lead;
  no_way = λ t. s.no_way (b rest (subst (Starts M) e t));
  shape = s.shape;
}

-- no shape comes behind the word of a declaration
pub lacks_now : (M : Language) (text rest : List ℕ) → ((u : List ℕ) → Starts M (codes "declare " ++ u)
    → Starts Shapes u) → text ≡ codes "declare " ++ rest → BeginsNo Shapes rest → Lacks Declares M text (length rest)
lacks_now M text rest b e n = grind arith

-- what a stop says, made weaker
pub handed_on : (e : LineStop) (P Q R S : ℕ → Type 0) → ((left : ℕ) → P left → R left) → ((left : ℕ) → Q left → S left)
    → OnStop e P Q → OnStop e R S
handed_on p q r s t f g h = grind arith

-- the same of the error that a `?` returns
pub handed_over : {T : Type 0} (r : Result T LineStop) (e : LineStop) (P Q R S : ℕ → Type 0)
    → IsErrAnd r (λ y. y ≡ e) → ((left : ℕ) → P left → R left) → ((left : ℕ) → Q left → S left) → OnStop e P Q
    → IfErr r (λ y. OnStop y R S)
handed_over r e P Q R S h f g o = grind (arith, err_from_is_err_and, handed_on)

-- the same of a part's stop
pub passed_on : {T : Type 0} (r : Result T Stop) (e : Stop) (P Q : ℕ → Type 0) → IsErrAnd r (λ y. y ≡ e)
    → ((left : ℕ) → P left → Q left) → OnLeft e P → IfErr r (λ y. OnLeft y Q)
passed_on r e P Q h f o = let p = err_from_is_err_and r h in rw (p.1, p.2) (passed e P Q f o)

-- a stop of a part without shapes
pub from_part : (s : Stop) (e : LineStop) (P R S : ℕ → Type 0) → e ≡ line_stop s → ((left : ℕ) → P left → R left)
    → OnLeft s P → OnStop e R S
from_part p e q r s i f h = grind arith
