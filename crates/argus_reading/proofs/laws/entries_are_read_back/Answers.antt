-- A line is told from every other, and has no fault.
use Rattle.std.proofs.Common.{◌≡◌, ℕ, ◌<◌, ◌^◌, refl, sym}
use Rattle.argus_entries.specs.{Entry.PlainEntry, EntrySpelling.entry_spelling}
use Rattle.argus_entries.proofs.Lines.{one_line}
use Rattle.argus_reading.specs.Line.{IsEntryLine, IsReadable, Tells}
use Rattle.argus_reading.specs.declared.read_entry_error.ReadEntryError.{ReadEntryError}
use Rattle.argus_reading.specs.declared.read_entry_error.ReadEntryError.TheVariants as error
use Rattle.argus_reading.proofs.laws.entries_are_read_back.Goals as goal

its_line : (n : ℕ) (e : PlainEntry) → n < 2 ^ 64 → IsReadable e → IsEntryLine (entry_spelling n e)
its_line n e l g = record { number = n; entry = e; in_range = l; readable = g; is = refl }

no_error : (n : ℕ) (e : PlainEntry) → n < 2 ^ 64 → IsReadable e → (r : ReadEntryError) → Tells r (entry_spelling n e)
    → r ≡ error.OutOfMemory
no_error n e l g (error.Fault fault) t = absurd (t.fault.refused (its_line n e l g))
no_error n e l g (error.Shape fault) t = absurd (t.refused (its_line n e l g))
no_error n e l g error.OutOfMemory t = refl

one_entry : (n : ℕ) (e : PlainEntry) → n < 2 ^ 64 → IsReadable e → (m : ℕ) (d : PlainEntry) → m < 2 ^ 64 → IsReadable d
    → entry_spelling n e ≡ entry_spelling m d → (m ≡ n) × (d ≡ e)
one_entry n e l g m d k h q = one_line 16 m n d e k l (h.0.0, h.1) (g.0.0, g.1) (sym q)

pub returns : goal.returns
returns c = λ n e l g. (no_error n e l g, one_entry n e l g)
