-- The command with its three options is the program's command line.
use Rattle.std.proofs.{Common.{ap₂, rules, subst, sym, ◌∙◌}, lemmas.List.Elements.All-nil, lemmas.Result.IfOk-weaker}
use Rattle.std.specs.List.{All}
use Rattle.clap.specs.Words.{IsPlain, IsPlainArg, with_rule}
use Rattle.clap.proofs.CallerLemmas.{added_plain}
use Rattle.argus_cli.proofs.replay_command_line.command.Goals as goal

pub returns : goal.returns
returns c = IfOk-weaker c.arg-3.result _ _ (λ made last.
    let first = c.in_ok-arg.ensures in
    let second = c.in_ok-arg-2.ensures in
    let bare = c.new_command.ensures in
    let start : IsPlain c.new_command.result =
    (subst (All IsPlainArg) (sym bare.no_args) (All-nil IsPlainArg), bare.no_groups) in
    let app_1 = first.shape (search rules) ∙ ap₂ with_rule bare.app c.list_option.ensures.rule.2 in
    let app_2 = second.shape (search rules) ∙ ap₂ with_rule app_1 c.flag.ensures.rule in
    record {
      listings = c.list_option.ensures.rule.0;
      named = c.list_option.ensures.rule.1;
      app = last.shape (search rules) ∙ ap₂ with_rule app_2 c.text_option.ensures.rule;
      plain = added_plain _ _ _ last (added_plain _ _ _ second (added_plain _ _ _ first start (search rules))
          (search rules)) (search rules);
      no_globals = search rules;
    }) c.arg-3.ensures
