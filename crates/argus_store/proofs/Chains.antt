-- What the loops over a log's rows keep, and how a line begins.
use Rattle.std.proofs.Common.{◌≡◌, ◌≢◌, ◌↔◌, ◌++◌, ◌+◌, ℕ, pos, List, [], ◌∷◌, map, flat_map, codes, IsTrue, false, refl}
use Rattle.std.proofs.Common.{sym, ap, subst, ◌∙◌, append_assoc, append-nil, inl, inr, Bool, Option, Some, None, is_some}
use Rattle.std.specs.{Borrow.Bor, Option.MatchOption}
use Rattle.std.proofs.lemmas.List.{append_cancel_left, append_cancel_right}
use Rattle.sqlite.specs.Order.{Row}
use Rattle.sqlite.specs.declared.types.Value.TheVariants.{Int}
use Rattle.argus_store.specs.{declared.end.End.End, End.end_after}
use Rattle.argus_store.specs.Journal.{Batch, OpeningLine, shown_batch, shown_line}
use Rattle.argus_store.specs.declared.faulty_row.FaultyRow.{FaultyRow}
use Rattle.argus_store.specs.declared.faulty_row.Table.TheVariants.{Opening}
use Rattle.argus_store.specs.declared.faulty_row.RowFault.TheVariants.{Number}
use Rattle.argus_store.specs.Chain.{AreInPlace, IsOutOfPlace, Follow, IsFirstWrong, IsNext, IsWrong, ended, faulty, joined}
use Rattle.argus_store.specs.{RowLine.{HaveLines, as_line}, Listing.HasNoListing}
use Rattle.argus_store.specs.declared.listing_error.ListingError.{ListingError}
use Rattle.argus_store.specs.declared.listing_error.ListingError.TheVariants as error

-- ---- how a line begins

-- a text that begins like this, and whose rest is tested
pub at_some : (p s x : List ℕ) (f : List ℕ → List ℕ) (b : Bool) → s ≡ p ++ x
    → IsTrue b ↔ ((rest : List ℕ) × (x ≡ f rest)) → IsTrue b ↔ ((rest : List ℕ) × (s ≡ p ++ f rest))
at_some p s x f b is h = (
  λ t. let r = h.0 t in (r.0, is ∙ ap (λ y. p ++ y) r.1),
  λ r. h.1 (r.0, append_cancel_left p x (f r.0) (sym is ∙ r.1)),
)

pub at_none : (p s : List ℕ) (f : List ℕ → List ℕ) → ((rest : List ℕ) → ¬ (s ≡ p ++ rest))
    → IsTrue false ↔ ((rest : List ℕ) × (s ≡ p ++ f rest))
at_none p s f none = (λ t. absurd (let e = t in cc), λ r. absurd (none (f r.0) r.1))

pub tells : (p s : List ℕ) (r : Option (Bor (List ℕ)))
    → MatchOption r ((rest : List ℕ) → ¬ (s ≡ p ++ rest)) (λ x. s ≡ p ++ x.now)
    → IsTrue (is_some r) ↔ ((rest : List ℕ) × (s ≡ p ++ rest))
tells p s None none = (λ t. absurd (let e = t in cc), λ r. absurd (none r.0 r.1))
tells p s (Some x) is = (λ _. (x.now, is), λ _. refl)

-- ---- the rows that are left

abbrev pub ended_texts : List OpeningLine → List ℕ
ended_texts = flat_map (λ (l : OpeningLine). ended l.text)

abbrev pub batch_texts : List Batch → List ℕ
batch_texts = flat_map (λ (b : Batch). ended b.lines)

-- what is said of the lines that are left is so of all
pub record LinesLeft (ls : List OpeningLine) (before : List ℕ) (at : ℕ) (rest : List Row) (text : List ℕ)
    : Type 0 where
  pub left : List OpeningLine
  pub rows : rest ≡ map shown_line left
  pub in_place : AreInPlace at left → AreInPlace 0 ls
  pub out : (fault : FaultyRow) → IsOutOfPlace at left fault → IsOutOfPlace 0 ls fault
  pub texts : text ++ ended_texts left ≡ before ++ ended_texts ls

-- and of the batches
pub record BatchesLeft (name : List ℕ) (start : End) (bs : List Batch) (before : List ℕ) (at : End) (rest : List Row)
    (text : List ℕ) : Type 0 where
  pub left : List Batch
  pub rows : rest ≡ map shown_batch left
  pub follow : (end : End) → Follow name at left end → Follow name start bs end
  pub wrong : (fault : FaultyRow) → IsFirstWrong name at left fault → IsFirstWrong name start bs fault
  pub texts : text ++ batch_texts left ≡ before ++ batch_texts bs

-- the first of them, and the others
pub record NextLine (ls : List OpeningLine) (before : List ℕ) (at : ℕ) (row : Row) (more : List Row)
    (text : List ℕ) : Type 0 where
  pub line : OpeningLine
  pub row_is : row ≡ shown_line line
  pub wrong : ¬ (line.number ≡ pos at) → (fault : FaultyRow) → fault
      ≡ faulty Opening line.number Number → IsOutOfPlace 0 ls fault
  pub then : line.number ≡ pos at → (after : List ℕ) → after ≡ text ++ ended line.text
      → LinesLeft ls before (at + 1) more after

pub record NextBatch (name : List ℕ) (start : End) (bs : List Batch) (before : List ℕ) (at : End) (row : Row)
    (more : List Row) (text : List ℕ) : Type 0 where
  pub batch : Batch
  pub row_is : row ≡ shown_batch batch
  pub wrong : (fault : FaultyRow) → IsWrong name at batch fault → IsFirstWrong name start bs fault
  pub then : IsNext name at batch → (next : End) → next ≡ end_after name at batch.lines → (after : List ℕ) → after
      ≡ text ++ ended batch.lines → BatchesLeft name start bs before next more after

head_is : {X : Type 0} (x y : X) (xs ys : List X) → x ∷ xs ≡ y ∷ ys → x ≡ y
head_is x y xs ys h = let e = h in cc

tail_is : {X : Type 0} (x y : X) (xs ys : List X) → x ∷ xs ≡ y ∷ ys → xs ≡ ys
tail_is x y xs ys h = let e = h in cc

pub next_line : (ls : List OpeningLine) (before : List ℕ) (at : ℕ) (rest : List Row) (row : Row) (more : List Row)
    (text : List ℕ) → rest ≡ row ∷ more → LinesLeft ls before at rest text → NextLine ls before at row more text
next_line ls before at rest row more text is it = go it.left (sym is ∙ it.rows) it.in_place it.out it.texts
  where
    go : (left : List OpeningLine) → row ∷ more ≡ map shown_line left → (AreInPlace at left → AreInPlace 0 ls)
        → ((fault : FaultyRow) → IsOutOfPlace at left fault → IsOutOfPlace 0 ls fault)
        → text ++ ended_texts left ≡ before ++ ended_texts ls → NextLine ls before at row more text
    go [] rows in_place out texts = absurd (let e = rows in cc)
    go (l ∷ left) rows in_place out texts = record {
      line = l;
      row_is = head_is row (shown_line l) more (map shown_line left) rows;
      wrong = λ other fault is. out fault (inl (other, is));
      then = λ same after is. record {
        left = left;
        rows = tail_is row (shown_line l) more (map shown_line left) rows;
        in_place = λ all. in_place (same, all);
        out = λ fault h. out fault (inr (same, h));
        texts = ap (λ t. t ++ ended_texts left) is ∙ append_assoc text (ended l.text) (ended_texts left) ∙ texts;
      };
    }

pub next_batch : (name : List ℕ) (start : End) (bs : List Batch) (before : List ℕ) (at : End) (rest : List Row)
    (row : Row) (more : List Row) (text : List ℕ) → rest ≡ row ∷ more → BatchesLeft name start bs before at rest text
    → NextBatch name start bs before at row more text
next_batch name start bs before at rest row more text is it =
    go it.left (sym is ∙ it.rows) it.follow it.wrong it.texts
  where
    go : (left : List Batch) → row ∷ more ≡ map shown_batch left
        → ((end : End) → Follow name at left end → Follow name start bs end)
        → ((fault : FaultyRow) → IsFirstWrong name at left fault → IsFirstWrong name start bs fault)
        → text ++ batch_texts left ≡ before ++ batch_texts bs → NextBatch name start bs before at row more text
    go [] rows follow wrong texts = absurd (let e = rows in cc)
    go (b ∷ left) rows follow wrong texts = record {
      batch = b;
      row_is = head_is row (shown_batch b) more (map shown_batch left) rows;
      wrong = λ fault is. wrong fault (inl is);
      then = λ next end is after after_is. record {
        left = left;
        rows = tail_is row (shown_batch b) more (map shown_batch left) rows;
        follow = λ last h. follow last (next, subst (λ e. Follow name e left last) is h);
        wrong = λ fault h. wrong fault (inr (next, subst (λ e. IsFirstWrong name e left fault) is h));
        texts = ap (λ t. t ++ batch_texts left) after_is ∙ append_assoc text (ended b.lines) (batch_texts left) ∙ texts;
      };
    }

-- at the end nothing is left
pub no_batch : (name : List ℕ) (start : End) (bs : List Batch) (before : List ℕ) (at : End) (rest : List Row)
    (text : List ℕ) → rest ≡ [] → BatchesLeft name start bs before at rest text
    → Follow name start bs at × (text ≡ before ++ batch_texts bs)
no_batch name start bs before at rest text is it = go it.left (sym is ∙ it.rows) it.follow it.texts
  where
    go : (left : List Batch) → [] ≡ map shown_batch left
        → ((end : End) → Follow name at left end → Follow name start bs end)
        → text ++ batch_texts left ≡ before ++ batch_texts bs
        → Follow name start bs at × (text ≡ before ++ batch_texts bs)
    go [] rows follow texts = (follow at refl, sym (append-nil text) ∙ texts)
    go (b ∷ left) rows follow texts = absurd (let e = rows in cc)

-- ---- rows by their numbers and texts

pub lines_have : (ls : List OpeningLine) → HaveLines (map shown_line ls) ls
lines_have [] = tt
lines_have (l ∷ ls) = (([], refl), lines_have ls)

pub batches_have : (bs : List Batch) → HaveLines (map shown_batch bs) (map as_line bs)
batches_have [] = tt
batches_have (b ∷ bs) = ((Int b.sum ∷ [], refl), batches_have bs)

-- ---- errors

pub told : (P : FaultyRow → Type 0) (e : ListingError) (fault : FaultyRow) → e ≡ error.Row fault → P fault
    → HasNoListing P e
told P e fault is p = subst (HasNoListing P) (sym is) p

pub weaker : (P Q : FaultyRow → Type 0) → ((fault : FaultyRow) → P fault → Q fault) → (e : ListingError)
    → HasNoListing P e → HasNoListing Q e
weaker P Q f (error.Row fault) h = f fault h
weaker P Q f error.OutOfMemory h = tt

-- ---- the opening's lines, joined

abbrev line_texts : List OpeningLine → List ℕ
line_texts = flat_map (λ (l : OpeningLine). codes "\n" ++ l.text)

shifted_feed : (ls : List OpeningLine) → codes "\n" ++ ended_texts ls ≡ line_texts ls ++ codes "\n"
shifted_feed [] = refl
shifted_feed (m ∷ ms) = ap (λ t. 10 ∷ t) (append_assoc m.text (codes "\n") (ended_texts ms)
    ∙ ap (λ t. m.text ++ t) (shifted_feed ms) ∙ sym (append_assoc m.text (line_texts ms) (codes "\n")))

joined_ended : (l : OpeningLine) (ls : List OpeningLine) → joined (l ∷ ls) ++ codes "\n" ≡ ended_texts (l ∷ ls)
joined_ended l ls = append_assoc l.text (line_texts ls) (codes "\n")
    ∙ ap (λ t. l.text ++ t) (sym (shifted_feed ls)) ∙ sym (append_assoc l.text (codes "\n") (ended_texts ls))

pub feed_off : (ls : List OpeningLine) (lines : List ℕ) → lines ++ codes "\n" ≡ ended_texts ls → lines ≡ joined ls
feed_off [] [] is = absurd (let e = is in cc)
feed_off [] (x ∷ lines) is = absurd (let e = is in cc)
feed_off (l ∷ ls) lines is = append_cancel_right lines (joined (l ∷ ls)) (codes "\n") (is ∙ sym (joined_ended l ls))

pub no_feed : (ls : List OpeningLine) (text : List ℕ) → ((front : List ℕ) → text ≢ front ++ codes "\n")
    → text ≡ ended_texts ls → text ≡ joined ls
no_feed [] text none is = is
no_feed (l ∷ ls) text none is = absurd (none (joined (l ∷ ls)) (is ∙ sym (joined_ended l ls)))
