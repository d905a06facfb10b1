-- What an action did counts by its owner.
use Rattle.std.proofs.Common.{None, Some, ap, sym, ◌∙◌}
use Rattle.argus_journal.specs.{Journal.{entries_of, opening_of}, Replaying.counts_by_entries}
use Rattle.argus_journal.specs.declared.owner.Owner.TheVariants.{Base, Folded, Gone, Held}
use Rattle.argus_audit.proofs.Owners.{above, counted}
use Rattle.argus_audit.proofs.owning.counts.Goals as goal

pub returns-in-Some-Base : goal.returns-in-Some-Base
returns-in-Some-Base c =
    let journal = c.args.journal.now in
    counted (opening_of journal) (entries_of journal) c.requires.legal c.args.reader c.args.a.0 (Some Base)
    (ap Some (sym c.in-Some-Base.field-0-is) ∙ c.in-Some-Base.ensures)

pub returns-in-Some : goal.returns-in-Some
returns-in-Some c =
    let journal = c.args.journal.now in
    let s = opening_of journal in
    let j = entries_of journal in
    let x = c.in-Some-Held.x in
    let h = c.in-Some.h in
    let owned = ap Some (sym c.in-Some-Held.field-0-is) ∙ c.in-Some-Held.ensures in
    c.is_ancestor.ensures
    ∙ above c.args.tree.now s j c.requires.legal c.requires.tree c.args.a.0 x h (sym owned)
    ∙ counted s j c.requires.legal (Some h) c.args.a.0 (Some (Held x)) owned
    ∙ ap (λ r. counts_by_entries s.first_action j r c.args.a.0) (sym c.in-Some.is)

pub returns-in-None-reader : goal.returns-in-None-reader
returns-in-None-reader c =
    let journal = c.args.journal.now in
    let s = opening_of journal in
    let j = entries_of journal in
    counted s j c.requires.legal None c.args.a.0 (Some (Held c.in-Some-Held.x))
    (ap Some (sym c.in-Some-Held.field-0-is) ∙ c.in-Some-Held.ensures)
    ∙ ap (λ r. counts_by_entries s.first_action j r c.args.a.0) (sym c.in-None-reader.is)

pub returns-in-Some-Folded : goal.returns-in-Some-Folded
returns-in-Some-Folded c =
    let journal = c.args.journal.now in
    counted (opening_of journal) (entries_of journal) c.requires.legal c.args.reader c.args.a.0 (Some Folded)
    (ap Some (sym c.in-Some-Folded.field-0-is) ∙ c.in-Some-Folded.ensures)

pub returns-in-Some-Gone : goal.returns-in-Some-Gone
returns-in-Some-Gone c =
    let journal = c.args.journal.now in
    counted (opening_of journal) (entries_of journal) c.requires.legal c.args.reader c.args.a.0 (Some Gone)
    (ap Some (sym c.in-Some-Gone.field-0-is) ∙ c.in-Some-Gone.ensures)

pub returns-in-None : goal.returns-in-None
returns-in-None c =
    let journal = c.args.journal.now in
    counted (opening_of journal) (entries_of journal) c.requires.legal c.args.reader c.args.a.0 None c.in-None.ensures
