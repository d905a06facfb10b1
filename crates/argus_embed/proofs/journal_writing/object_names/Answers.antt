use Rattle.std.proofs.Common.{[], ap, arith, sym, ◌++◌, ◌∙◌, ◌∷◌, ◌≡◌}
use Rattle.std.proofs.lemmas.List.FromFn.{map-range_with_len_more}
use Rattle.argus_embed.specs.Questions.{object_name, object_names}
use Rattle.argus_embed.proofs.journal_writing.object_names.Goals as goal

pub loop-o-preserved : goal.loop-o-preserved
loop-o-preserved c =
    c.in_ok-push.ensures.items ∙ ap (λ l. l ++ c.in_ok-name.name ∷ []) c.loop-o.invariant
    ∙ ap (λ n. object_names c.loop-o.o ++ n ∷ []) c.in_ok-name.ensures
    ∙ sym (map-range_with_len_more object_name 0 c.loop-o.o c.loop-o.o (omega arith))

pub returns : goal.returns
returns c =
    let all : c.loop-o.o ≡ c.args.count = omega (arith, c.loop-o-test.false, c.loop-o.auto.o-end) in
    c.loop-o.invariant ∙ ap object_names all
