use Rattle.std.proofs.Common.{◌≡◌, ◌∙◌, ap, subst, rules, to_z, of_z, w64}
use Rattle.std.proofs.lemmas.Result.{IfErr-weaker}
use Rattle.argus_store.specs.Chain.{StandsBefore, faulty}
use Rattle.argus_store.specs.declared.faulty_row.Table.TheVariants.{Batch as OfBatch}
use Rattle.argus_store.specs.declared.faulty_row.RowFault.TheVariants.{Number}
use Rattle.argus_store.proofs.Chains.{told, weaker}
use Rattle.argus_store.proofs.listing.entry_of.Goals as goal

pub returns-in-None-clause-faulty : goal.returns-in-None-clause-faulty
returns-in-None-clause-faulty c ls b opening first =
    let key : to_z w64 (of_z w64 c.key_of-in-None.result) ≡ b.first = search (
      rules,
      c.key_of-in-None.ensures b.first _
          first,
    ) in
    told _ c.error_at.result _ c.error_at.ensures (
      λ entry same says. absurd (let a = (c.number_of.ensures b.first _ first entry).1 same in let h = c.in-None.is in cc),
      ap (λ k. faulty OfBatch k Number) key,
    )

pub returns-in-Some-clause-faulty : goal.returns-in-Some-clause-faulty
returns-in-Some-clause-faulty c ls b opening first =
    let key : to_z w64 (of_z w64 c.key_of.result) ≡ b.first = search (rules, c.key_of.ensures b.first _ first) in
    IfErr-weaker c.standing.result _ _ (λ e h. weaker _ _ (λ fault p. (
      λ entry same says. p.0 (subst (λ n. StandsBefore n ls) (let a = (c.number_of.ensures b.first _ first entry).1 same in
          let h = c.in-Some.is in cc) says),
      p.1 ∙ ap (λ k. faulty OfBatch k Number) key,
    )) e h) (c.standing.ensures.faulty ls opening)
