-- Prefixes of lists.
use Rattle.std.proofs.Common.{List, [], ap, append_assoc, drop, length, refl, sym, ◌++◌, ◌∙◌, ◌≡◌}
use Rattle.std.proofs.{Math.Seq.drop-append_seam, lemmas.List.append-nil}
use mathlib.Core.List.{IsPrefix}

module _ {A : Type 0} where
  pub begins_itself : (l : List A) → IsPrefix l l
  begins_itself l = ([], append-nil l)

  pub nothing_begins : (l : List A) → IsPrefix [] l
  nothing_begins l = (l, refl)

  pub begins_later : (k l m : List A) → IsPrefix k l → IsPrefix l m → IsPrefix k m
  begins_later k l m p q = (p.0 ++ q.0, sym (append_assoc k p.0 q.0) ∙ ap (λ z. z ++ q.0) p.1 ∙ q.1)

  -- what begins one part of a list begins the whole
  pub begins_behind : (n v f p q : List A) → IsPrefix v f → p ++ q ≡ f → IsPrefix (n ++ v) ((n ++ p) ++ q)
  begins_behind n v f p q b is =
      (b.0, append_assoc n v b.0 ∙ ap (λ z. n ++ z) (b.1 ∙ sym is) ∙ sym (append_assoc n p q))

  pub begins_more : (k l m x : List A) → IsPrefix k l → m ≡ l ++ x → IsPrefix k m
  begins_more k l m x p is = (p.0 ++ x, sym (append_assoc k p.0 x) ∙ ap (λ z. z ++ x) p.1 ∙ sym is)

  -- a list from behind its beginning on
  pub behind : (p f : List A) → IsPrefix p f → p ++ drop (length p) f ≡ f
  behind p f is = ap (λ z. p ++ drop (length p) z) (sym is.1) ∙ ap (λ z. p ++ z) (drop-append_seam p is.0) ∙ is.1

  pub left_behind : (p q f : List A) → p ++ q ≡ f → drop (length p) f ≡ q
  left_behind p q f is = ap (λ z. drop (length p) z) (sym is) ∙ drop-append_seam p q
