-- A list that isn't the one of the action that it names is nobody's.
use Rattle.std.proofs.{Common.{◌≡◌, ◌<◌, true, length, get_or, sym, ◌∙◌, rules}, lemmas.Option.{cond_some, none-some}}
use Rattle.argus_objects.{specs.Holdings.no_list, proofs.Places.nobody_has}
use Rattle.argus_objects.proofs.holdings.Holdings.take_unused.Goals as goal

pub returns-in_default-clause-free : goal.returns-in_default-clause-free
returns-in_default-clause-free c =
    let h = c.args.self.now in
    let there : c.in_ok-index.index < length h.lists.items = search rules in
    let read : c.in-Some.list.now ≡ get_or h.lists.items c.in_ok-index.index no_list = search rules in
    nobody_has h c.in_ok-index.index c.in-Some.list.now there read
    (λ e. c.if-own-index.false (cond_some true _ _ (sym c.in-Some-index_of.is ∙ (c.index_of.ensures ∙ e))).1)

pub returns-in_default-2-clause-free : goal.returns-in_default-2-clause-free
returns-in_default-2-clause-free c =
    let h = c.args.self.now in
    let there : c.in_ok-index.index < length h.lists.items = search rules in
    let read : c.in-Some.list.now ≡ get_or h.lists.items c.in_ok-index.index no_list = search rules in
    nobody_has h c.in_ok-index.index c.in-Some.list.now there read
    (λ e. none-some _ (sym c.in_default.is ∙ (c.index_of.ensures ∙ e)))
