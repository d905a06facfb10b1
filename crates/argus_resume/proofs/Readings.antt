-- How much of what a reader had was taken, read by read.
use Rattle.std.proofs.lemmas.{Option.none-some, List.{drop-append-le, drop-drop, length-take-le, take-append-le}}
use Rattle.std.proofs.{lemmas.List.take-take, Common.{◌≡◌, ℕ, ◌+◌, ◌≤◌, Bool, false, List, ◌++◌, length, None, Option}}
use Rattle.std.proofs.Common.{Some, take, drop, sym, ap, ◌∙◌, subst, arith, append_assoc, length-append, length-drop}
use Rattle.std.proofs.Common.{take-add, ◌-◌}
use Rattle.std.specs.{Option.unwrap_or, Io.KnownBytes.Consumes}
use Rattle.argus_journal.specs.JournalView.{JournalView}
use Rattle.argus_resume.specs.{JournalText.{IsReadableJournal, journal_text, no_journal}, Resumed.{IsResumed, taken_in}}
use Rattle.argus_resume.specs.{SoundFront.sound_front, declared.{resumed.Resumed.Resumed, read_end.ReadEnd.ReadEnd}}
use Rattle.argus_resume.specs.{declared.taken_end.TakenEnd.TakenEnd, Taking.{EndsChunk, EndsReading, HasNoFeed}}
use Rattle.argus_resume.specs.Taking.{TakesFrom, early_end, line_count}
use Rattle.argus_resume.proofs.Feeds.{count-append}
use Rattle.argus_resume.specs.declared.taken_end.TakenEnd.TheVariants as taken

consumes_on : (a b c : Option (List ℕ)) (x y : List ℕ) → Consumes a b x → Consumes b c y → Consumes a c (x ++ y)
consumes_on r b c x y p q = grind (arith, append_assoc)

-- so much of what was read was taken, and this is left of it
pub record ReadTo (old new : JournalView) (had has : Option (List ℕ)) (bytes lines most : ℕ)
    (left : List ℕ) : Type 0 where
  pub read : List ℕ
  pub consumed : Consumes had has read
  pub size : length read ≤ most
  pub within : bytes ≤ length read
  pub text : journal_text new ≡ journal_text old ++ take bytes read
  pub lines_are : lines ≡ line_count (take bytes read)
  pub left_is : drop bytes read ≡ left

module _ (old new : JournalView) (had has : Option (List ℕ)) (bytes lines most : ℕ) (left : List ℕ)
    (r : ReadTo old new had has bytes lines most left) where
  -- a chunk was read, and its first bytes behind what was left were taken
  pub read_more : (after : Option (List ℕ)) (chunk : List ℕ) (next : JournalView) (count more m : ℕ)
      → Consumes has after chunk → most + length chunk ≤ m → count ≤ length (left ++ chunk)
      → journal_text next ≡ journal_text new ++ take count (left ++ chunk)
      → more ≡ line_count (take count (left ++ chunk))
      → ReadTo old next had after (bytes + count) (lines + more) m (drop count (left ++ chunk))
  read_more after chunk next count more m c h w e f = let behind : drop bytes (r.read ++ chunk) ≡ left ++ chunk =
      drop-append-le bytes r.read chunk r.within ∙ ap (λ t. t ++ chunk) r.left_is in
      let before : take bytes (r.read ++ chunk) ≡ take bytes r.read = take-append-le bytes r.read chunk r.within in
      let both : take (bytes + count) (r.read ++ chunk) ≡ take bytes r.read ++ take count (left ++ chunk) =
      take-add bytes count (r.read ++ chunk) ∙ ap (λ t. t ++ take count (drop bytes (r.read ++ chunk))) before
      ∙ ap (λ t. take bytes r.read ++ take count t) behind in
      record {
        read = r.read ++ chunk;
        consumed = consumes_on had has after r.read chunk r.consumed c;
        size = omega (arith, r.size, h, length-append r.read chunk);
        within = omega (
          arith,
          w,
          r.within,
          length-append r.read chunk,
          length-append left chunk,
          ap length r.left_is,
          length-drop bytes r.read,
        );
        text = e ∙ ap (λ t. t ++ take count (left ++ chunk)) r.text
            ∙ append_assoc (journal_text old) (take bytes r.read) (take count (left ++ chunk))
            ∙ ap (λ t. journal_text old ++ t) (sym both);
        lines_are = ap (λ k. k + more) r.lines_are ∙ ap (λ k. line_count (take bytes r.read) + k) f
            ∙ sym (count-append (take bytes r.read) (take count (left ++ chunk))) ∙ ap line_count (sym both);
        left_is = sym (drop-drop count bytes (r.read ++ chunk)) ∙ ap (drop count) behind;
      }

  -- the end
  pub read_ends : (end : ReadEnd) (failed : Bool) → EndsReading end new left has failed
      → TakesFrom old new had has failed (record { bytes = bytes; lines = lines; end = end })
  read_ends end failed e = grind arith

same_end : (a b : ReadEnd) → Some a ≡ Some b → a ≡ b
same_end a b e = ap (λ (o : Option ReadEnd). unwrap_or o a) e

-- an end that comes before the reader's
pub early_ends : (t : TakenEnd) (end : ReadEnd) (j : JournalView) (pending left : List ℕ) (has : Option (List ℕ))
    (failed : Bool) → failed ≡ false → Some end ≡ early_end t → EndsChunk t j pending left
    → EndsReading end j left has failed
early_ends p end j pending left has failed fine e h = grind (arith, none-some, same_end)

-- no end: what is left is pending
pub no_end : (t : TakenEnd) (j : JournalView) (pending left : List ℕ) → None ≡ early_end t
    → EndsChunk t j pending left → (left ≡ pending) × HasNoFeed pending
no_end p j pending left e h = grind (arith, none-some)

-- the first bytes of what was taken are the first bytes of what was read
pub front_read : (text read : List ℕ) (bytes dropped : ℕ) → bytes ≤ length read → text ≡ take bytes read
    → take (length text - dropped) text ≡ take (bytes - dropped) read
front_read text read bytes dropped h e = grind (arith, length-take-le, take-take)

-- the guardian of what was taken, from what each call of `resume` promises
pub is_resumed : (old new : JournalView) (had has : Option (List ℕ)) (failed : Bool) (resumed : Resumed)
    → old ≡ no_journal → IsReadableJournal new → TakesFrom old new had has failed (taken_in resumed)
    → resumed.guardian ≡ sound_front new
    → journal_text resumed.guardian ≡ take (length (journal_text new) - resumed.dropped) (journal_text new)
    → resumed.dropped + length (journal_text resumed.guardian) ≡ length (journal_text new)
    → IsResumed had has failed resumed
is_resumed old new had has failed resumed none readable taken guardian front dropped =
    let from : TakesFrom no_journal new had has failed (taken_in resumed) =
    subst (λ (j : JournalView). TakesFrom j new had has failed (taken_in resumed)) none taken in
    record {
      journal = new;
      readable = readable;
      taken = from;
      guardian = guardian;
      front = front ∙ front_read (journal_text new) from.read resumed.bytes resumed.dropped from.within from.text;
      dropped = dropped;
    }
