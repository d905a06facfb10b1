-- Lines of the journal, one after another.
use Rattle.std.proofs.Common.{List, String, [], ap, append-nil, arith, cond, drop, inl, inr, length, map, refl, rules}
use Rattle.std.proofs.Common.{string_bytes, subst, sym, take, ℕ, ◌++◌, ◌+◌, ◌-◌, ◌<◌, ◌∙◌, ◌∷◌, ◌≡◌, ◌≢◌, ◌≤◌, ◌⊎◌}
use Rattle.std.proofs.{lemmas.Grind.flat_map-append, lemmas.List.Folds.flat_map-map, lemmas.Bool.ne_eqb}
use Rattle.std.proofs.{lemmas.List.FromFn.map-range_with_len_more, Math.Seq.{take-append_seam, take-length}}
use Rattle.std.specs.{List.{flat_map, range_with_len}, String.string_len, declared.alloc.Global.Global}
use Rattle.argus_values.specs.memory_declared.limited.Limited.{Limited}
use Rattle.argus_journal.specs.JournalView.{JournalView}
use Rattle.argus_embed.specs.{JournalLines.{AreLines, IsFitting, line_at, lines_from, next_of}, Kept.IsPut}
use Rattle.argus_embed.specs.declared.lines_writing.Fitting.{Fitting}

-- one line more
pub lines_more : (journal : JournalView) (from count : ℕ)
    → lines_from journal from (count + 1) ≡ lines_from journal from count ++ line_at journal (from + count)
lines_more journal from count =
    let whole : List ℕ → List ℕ = λ (text : List ℕ). text in
    let line : ℕ → List ℕ = line_at journal in
    let so_far = map line (range_with_len from count) in
    let last = line (from + count) in
    sym (flat_map-map whole line (range_with_len from (count + 1)))
    ∙ ap (flat_map whole) (map-range_with_len_more line from count (from + count) refl)
    ∙ flat_map-append whole so_far (last ∷ [])
    ∙ ap (λ text. text ++ (last ++ [])) (flat_map-map whole line (range_with_len from count))
    ∙ ap (λ text. lines_from journal from count ++ text) (append-nil last)

module _ (journal : JournalView) (from at count : ℕ) (before now : List ℕ) (is : at ≡ from + count)
    (so_far : before ≡ lines_from journal from count) (added : now ≡ before ++ line_at journal at) where
  pub line_added : now ≡ lines_from journal from (count + 1)
  line_added =
      added ∙ ap (λ (b : List ℕ). b ++ line_at journal at) so_far
      ∙ ap (λ n. lines_from journal from count ++ line_at journal n) is ∙ sym (lines_more journal from count)

  -- where the last line is past what fits
  pub line_past : (next most size : ℕ) → size ≡ length before → length before ≤ most → at < next → most < length now
      → (size ≡ length (lines_from journal from (at - from))) × (size ≤ most)
      × (((from + (at - from) ≡ next) × (now ≡ lines_from journal from (at - from)))
      ⊎ ((from + (at - from) < next) × (now ≡ lines_from journal from (at - from + 1)) × (most < length now)))
  line_past next most size sized fits more past =
      let so_many : count ≡ at - from = omega (arith, is) in (
        sized ∙ ap (λ (b : List ℕ). length b) so_far ∙ ap (λ n. length (lines_from journal from n)) so_many,
        omega (arith, sized, fits),
        inr (omega (arith, is, more), line_added ∙ ap (λ n. lines_from journal from (n + 1)) so_many, past),
      )

-- the first bytes of the lines that were made are those of so many entries
lines_in : (journal : JournalView) (from next most : ℕ) (f : Fitting) → IsFitting journal from next most f
    → take f.size (string_bytes f.text) ≡ lines_from journal from f.count
lines_in journal from next most f fitting =
    let lines = lines_from journal from f.count in
    let last = line_at journal (from + f.count) in
    elim fitting.2 [
      | inl whole ↦ ap (λ (t : List ℕ). take f.size t) whole.1 ∙ ap (λ n. take n lines) fitting.0 ∙ take-length lines
      | inr more ↦ ap (λ (t : List ℕ). take f.size t) (more.1 ∙ lines_more journal from f.count)
          ∙ ap (λ n. take n (lines ++ last)) fitting.0 ∙ take-append_seam lines last
    ]

not_all : (journal : JournalView) (from next most : ℕ) (f : Fitting) → IsFitting journal from next most f
    → (from + f.count ≤ next) × (from + f.count < next → most < length (lines_from journal from (f.count + 1)))
not_all journal from next most f fitting =
    elim fitting.2 [
      | inl whole ↦
          let all = whole.0 in
          (omega (arith, all), λ less. absurd (omega (arith, all, less)))
      | inr more ↦
          let past = more.0 in
          (omega (arith, past), λ less. subst (λ (t : List ℕ). most < length t) more.1 more.2)
    ]

-- they are put into the room
pub lines_put : (journal : JournalView) (from next most : ℕ) (f : Fitting) (old new bytes : List ℕ) (size : ℕ)
    → next ≡ next_of journal → most ≡ length old → IsFitting journal from next most f → f.count ≢ 0
    → bytes ≡ take f.size (string_bytes f.text) → size ≡ length bytes → IsPut bytes old new
    → AreLines journal from old new (record { count = f.count; size = size })
lines_put journal from next most f old new bytes size is room fitting some part sized put =
    let lines = lines_from journal from f.count in
    let same : bytes ≡ lines = part ∙ lines_in journal from next most f fitting in
    let long : f.size ≡ length lines = fitting.0 in
    let within : f.size ≤ most = fitting.1 in
    let count : length bytes ≡ length lines = ap (λ (b : List ℕ). length b) same in
    let rest = not_all journal from next most f fitting in
    let all = rest.0 in
    record {
      there = omega (arith, all, is);
      fit = omega (arith, long, within, room);
      put = subst (λ (b : List ℕ). new ≡ b ++ drop (length b) old) same (put.0 (omega (arith, count, long, within, room)));
      most = λ less. let past = rest.1 (omega (arith, less, is)) in omega (arith, past, room);
      size = sized ∙ count ∙ sym (ap (λ b. cond b (length (line_at journal from)) (length lines)) (ne_eqb f.count 0 some));
    }

-- how many bytes a text has
pub long_is : (text : String (Limited Global)) → string_len text ≡ length (string_bytes text)
long_is text = search (rules, arith)
