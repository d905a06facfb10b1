-- Texts that had bytes appended.
use Rattle.std.proofs.Common.{◌≡◌, ℕ, List, [], ◌∷◌, ◌++◌, length, take, refl, sym, ap, ◌∙◌, subst, append_assoc}
use Rattle.std.proofs.{Common.{length-append, String, string_bytes, rules, arith}, lemmas.Str.IsCharBoundary-from_take}
use Rattle.std.proofs.lemmas.Str.{IsUtf8-string_bytes}
use Rattle.std.specs.{String.string_len, declared.alloc.Global.Global, Str.{IsUtf8, IsCharBoundary}, Fmt.decimal}
use Rattle.argus_memory.specs.declared.limited.Limited.{Limited}
use Rattle.argus_contents.specs.Value.{PlainValue, choice, listed}
use Rattle.argus_texts.specs.{Grown.{Grew, commas}, Spelling.{escape, escaped, spelling, inside, behind}}
use Rattle.argus_texts.proofs.{Faults.take_front, Quotes.escaped-append}

pub grew_more : (a b c : List ℕ) → Grew a b → Grew b c → Grew a c
grew_more a b c g h =
    record { tail = g.tail ++ h.tail; is = h.is ∙ ap (λ x. x ++ h.tail) g.is ∙ append_assoc a g.tail h.tail }

-- a text that grew may be cut where it ended
cut_at_end : (old new : List ℕ) → IsUtf8 old → IsUtf8 new → Grew old new → IsCharBoundary new (length old)
cut_at_end old new u w g =
    let t : take (length old) new ≡ old = ap (take (length old)) g.is ∙ take_front old g.tail in
    IsCharBoundary-from_take new (length old) w (omega (arith, ap length g.is, length-append old g.tail))
    (subst IsUtf8 (sym t) u)

len_is : (s : String (Limited Global)) → length (string_bytes s) ≡ string_len s
len_is s = search (rules, arith)

-- a string that grew may be cut back to the length that it had
pub cut_back : (old new : String (Limited Global)) (len : ℕ) → len ≡ string_len old
    → Grew (string_bytes old) (string_bytes new) → IsCharBoundary (string_bytes new) len
cut_back old new len e g = subst (IsCharBoundary (string_bytes new)) (len_is old ∙ sym e)
    (cut_at_end (string_bytes old) (string_bytes new) (IsUtf8-string_bytes old) (IsUtf8-string_bytes new) g)

regroup : (o p e b q : List ℕ) → ((o ++ p) ++ e) ++ (b ++ q) ≡ o ++ ((p ++ (e ++ b)) ++ q)
regroup o p e b q = simp append_assoc

-- a plain piece and an escape were appended
pub quoted_step : (out plain rest others behind target : List ℕ) (first : ℕ) → rest ≡ plain ++ others
    → others ≡ first ∷ behind → escaped plain ≡ plain → out ++ (escaped rest ++ 34 ∷ []) ≡ target
    → ((out ++ plain) ++ escape first) ++ (escaped behind ++ 34 ∷ []) ≡ target
quoted_step out plain rest others behind target first p q r i = grind (arith, escaped-append, regroup)

regroup_choice : (o d s : List ℕ) → ((o ++ 60 ∷ (d ++ 58 ∷ [])) ++ s) ++ 62 ∷ [] ≡ o ++ 60 ∷ (d ++ 58 ∷ (s ++ 62 ∷ []))
regroup_choice o d s = simp append_assoc

-- a tag and its value were appended
pub choice_step : (old mid out : List ℕ) (t : ℕ) (v : PlainValue) → mid ≡ old ++ 60 ∷ (decimal t ++ 58 ∷ [])
    → out ≡ mid ++ spelling v → out ++ 62 ∷ [] ≡ old ++ spelling (choice t v)
choice_step old mid out t v e f =
    ap (λ x. x ++ 62 ∷ []) (f ∙ ap (λ x. x ++ spelling v) e) ∙ regroup_choice old (decimal t) (spelling v)

behind_commas : (close : ℕ) (vs ws : List PlainValue)
    → behind close (listed (vs ++ ws)) ≡ commas (listed vs) ++ behind close (listed ws)
behind_commas close [] ws = refl
behind_commas close (v ∷ vs) ws = ap (λ x. 44 ∷ (spelling v ++ x)) (behind_commas close vs ws)
    ∙ ap (λ x. 44 ∷ x) (sym (append_assoc (spelling v) (commas (listed vs)) (behind close (listed ws))))

behind_last : (close : ℕ) (vs : List PlainValue) → behind close (listed vs) ≡ commas (listed vs) ++ close ∷ []
behind_last close [] = refl
behind_last close (v ∷ vs) = ap (λ x. 44 ∷ (spelling v ++ x)) (behind_last close vs)
    ∙ ap (λ x. 44 ∷ x) (sym (append_assoc (spelling v) (commas (listed vs)) (close ∷ [])))

regroup_items : (o s a b z : List ℕ) → (((o ++ s) ++ a) ++ b) ++ z ≡ o ++ (s ++ (a ++ (b ++ z)))
regroup_items o s a b z = simp append_assoc

-- a first item and the items of two pieces were appended
pub items_step : (old one two out : List ℕ) (v : PlainValue) (vs ws : List PlainValue) → one ≡ old ++ spelling v
    → two ≡ one ++ commas (listed vs) → out ≡ two ++ commas (listed ws)
    → out ++ 93 ∷ [] ≡ old ++ inside 93 (listed (v ∷ (vs ++ ws)))
items_step old one two out v vs ws e f g = grind (arith, regroup_items, behind_last, behind_commas)
