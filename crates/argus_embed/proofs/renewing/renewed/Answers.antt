-- The copies are such as a guardian may begin with.
use Rattle.std.proofs.Common.{arith, rules, ◌∙◌}
use Rattle.argus_embed.proofs.KeptObjects.{copies_few, copies_sound, count_read}
use Rattle.argus_embed.proofs.renewing.renewed.Goals as goal

pub starting_at-requires-clause-few_objects : goal.starting_at-requires-clause-few_objects
starting_at-requires-clause-few_objects c =
    let count = count_read c.args.guardian.now _ _ (c.journal-2.ensures.opening ∙ c.journal.ensures.opening)
    (c.journal-2.ensures.entries ∙ c.journal.ensures.entries) c.len-first_entry.result c.len-first_entry.ensures in
    let within = c.if-first_entry-gt-MAX_FIRST_ENTRY.false in
    copies_few c.args.guardian.now _ _ (c.journal-2.ensures.opening ∙ c.journal.ensures.opening)
    (c.journal-2.ensures.entries ∙ c.journal.ensures.entries) c.journal-2.ensures.sound c.journal-2.ensures.legal
    c.in_ok-objects.objects.items c.in_ok-objects.ensures c.journal-2.ensures.limits (omega (arith, count, within))

pub starting_at-requires-clause-sound : goal.starting_at-requires-clause-sound
starting_at-requires-clause-sound c =
    copies_sound c.args.guardian.now _ _ (c.journal-2.ensures.opening ∙ c.journal.ensures.opening)
    (c.journal-2.ensures.entries ∙ c.journal.ensures.entries) c.journal-2.ensures.sound c.journal-2.ensures.legal
    c.in_ok-objects.objects.items c.in_ok-objects.ensures c.len-first_entry.result

pub returns-clause-ok : goal.returns-clause-ok
returns-clause-ok c = search rules
