-- One name more, in the map with its number, keeps map and lists in step.
use Rattle.std.proofs.Common.{◌≡◌, ◌∙◌, ap, subst, ◌∷◌, [], ◌++◌, length, Some, rules}
use Rattle.std.specs.{BTreeMap.UpdatesBy, Cmp.Lexicographic.slice_cmp, Ordering.nat_cmp}
use Rattle.argus_language.specs.Objects.{number_of}
use Rattle.argus_language.proofs.Naming.{indexed-more}
use Rattle.argus_language.proofs.objects.Objects.declare.Goals as goal

pub invariant_of-self-2 : goal.invariant_of-self-2
invariant_of-self-2 c =
    let text = c.args.text.now in
    let old = c.self.inside in
    let count : c.len.result ≡ length old.names.items = search rules in
    indexed-more old.names.items c.push_reserved.new.self.items old.shapes.items c.push_reserved-2.new.self.items
    old.numbers c.insert.new.self text c.args.shape c.self.invariant
    (ap (number_of text) c.self.view_is ∙ c.requires.new)
    (subst (λ n. UpdatesBy (λ x y. slice_cmp nat_cmp x.now y.now) (λ k. slice_cmp nat_cmp text k.now) old.numbers
    c.insert.new.self (Some n)) count c.in_ok-insert.ensures.updates)
    (c.push_reserved.ensures.items ∙ ap (λ ns. ns ++ c.args.name ∷ []) c.reserve.ensures.items
    ∙ ap (λ n. old.names.items ++ n ∷ []) c.requires.named)
    (c.push_reserved-2.ensures.items ∙ ap (λ ss. ss ++ c.args.shape ∷ []) c.reserve-2.ensures.items)

pub invariant_of-self : goal.invariant_of-self
invariant_of-self c = search rules

pub returns-in_err-reserve-clause-names : goal.returns-in_err-reserve-clause-names
returns-in_err-reserve-clause-names c = search rules

pub returns-in_err-reserve-clause-shapes : goal.returns-in_err-reserve-clause-shapes
returns-in_err-reserve-clause-shapes c = search rules

pub invariant_of-self-in_err-reserve-2 : goal.invariant_of-self-in_err-reserve-2
invariant_of-self-in_err-reserve-2 c = search rules

pub returns-in_err-reserve-2-clause-names : goal.returns-in_err-reserve-2-clause-names
returns-in_err-reserve-2-clause-names c = search rules

pub returns-in_err-reserve-2-clause-shapes : goal.returns-in_err-reserve-2-clause-shapes
returns-in_err-reserve-2-clause-shapes c = search rules

pub overflow_cast-len : goal.overflow_cast-len
overflow_cast-len c = search rules

pub invariant_of-self-in_err-insert : goal.invariant_of-self-in_err-insert
invariant_of-self-in_err-insert c = search rules

pub returns-in_err-insert-clause-names : goal.returns-in_err-insert-clause-names
returns-in_err-insert-clause-names c = search rules

pub returns-in_err-insert-clause-shapes : goal.returns-in_err-insert-clause-shapes
returns-in_err-insert-clause-shapes c = search rules

pub same-name : goal.same-name
same-name c = search rules

pub push_reserved-requires : goal.push_reserved-requires
push_reserved-requires c = search rules

pub same-shape : goal.same-shape
same-shape c = search rules

pub push_reserved-requires-2 : goal.push_reserved-requires-2
push_reserved-requires-2 c = search rules

pub returns-clause-names : goal.returns-clause-names
returns-clause-names c = search rules

pub returns-clause-shapes : goal.returns-clause-shapes
returns-clause-shapes c = search rules
