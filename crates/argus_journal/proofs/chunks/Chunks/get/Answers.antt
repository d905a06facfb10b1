-- What stands in a place: in a full chunk, or in the last one.
use Rattle.std.proofs.Common.{List, ap, arith, length, map, slice_get, ℕ, ◌%◌, ◌-◌, ◌/◌, ◌<◌, ◌∙◌, ◌≡◌}
use Rattle.std.proofs.lemmas.{Nat.div-add-mod', Option.slice_get-map, Bool.Decides.nat_tests}
use Rattle.argus_journal.{specs.declared.chunks.TheConstants.CHUNK, proofs.Chunked.place_behind_chunks}
use Rattle.argus_journal.proofs.Chunked.{place_in_chunk}
use Rattle.argus_entries.specs.{Entry.plain_entry, declared.entry.Entry.Entry}
use Rattle.argus_journal.proofs.chunks.Chunks.get.Goals as goal

-- the same stands in both places, and says the same
told : (xs ys : List Entry) (i k : ℕ) → slice_get xs i ≡ slice_get ys k
    → slice_get (map plain_entry xs) i ≡ slice_get (map plain_entry ys) k
told xs ys i k same = grind (arith, nat_tests, slice_get-map)

pub returns-then-place-self : goal.returns-then-place-self
returns-then-place-self c =
    let chunks = c.args.self.now in
    let place = c.args.place in
    let counted = chunks.counted in
    let within : place / CHUNK < length chunks.full.items = omega arith in
    let low : place % CHUNK < CHUNK = omega arith in
    c.at.ensures
    ∙ ap (λ xs. slice_get (map plain_entry xs) (place % CHUNK)) (c.deref.ensures.value ∙ ap (λ v. v.items) c.index.ensures)
    ∙ told _ _ (place % CHUNK) place
    (place_in_chunk (λ v. v.items) chunks.full.items chunks.last.items chunks.filled (place / CHUNK) (place % CHUNK) place
    c.index.result.now within low (div-add-mod' place CHUNK))

pub returns : goal.returns
returns c = grind (arith, nat_tests, told, place_behind_chunks)
