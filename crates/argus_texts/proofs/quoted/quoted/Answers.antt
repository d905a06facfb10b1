-- What was read so far stands between the opening quote and the rest.
use Rattle.std.proofs.{lemmas.Grind.common_steps, Common.{◌++◌, ◌∷◌, string_bytes, sym, ap, ◌∙◌, subst, arith, rules}}
use Rattle.std.proofs.{lemmas.Result.err_from_is_err_and, lemmas.Str.IsUtf8-string_bytes}
use Rattle.argus_texts.specs.{Language.Stops, Languages.Quoted, Spelling.escaped}
use Rattle.argus_texts.proofs.{Exits.passed, Quotes.feed_here}
use Rattle.argus_texts.proofs.Quotes.{feed_stops, escape_stops, quoted_reads, read_plain, read_escape, ends_here}
use Rattle.argus_texts.proofs.quoted.quoted.Goals as goal

pub returns-in_default-clause-stops : goal.returns-in_default-clause-stops
returns-in_default-clause-stops c =
    feed_stops (string_bytes c.push_str.new.self) c.args.text.now c.split_plain.result.1.now
    (IsUtf8-string_bytes c.push_str.new.self)
    (read_plain (string_bytes c.loop-read.read) (string_bytes c.push_str.new.self)
    c.args.text.now c.loop-read.rest.now c.split_plain.result.0.now c.split_plain.result.1.now
    c.loop-read.invariant.read c.split_plain.ensures.whole c.split_plain.ensures.plain c.in_ok-push_str.ensures.bytes)
    (ends_here c.split_plain.result.1.now c.in_default.ensures.none c.split_plain.ensures.special)

pub returns-then-first-eq34-clause-read : goal.returns-then-first-eq34-clause-read
returns-then-first-eq34-clause-read c =
    quoted_reads (string_bytes c.push_str.new.self) c.args.text.now c.split_plain.result.1.now c.in-Some.behind.now
    (IsUtf8-string_bytes c.push_str.new.self)
    (read_plain (string_bytes c.loop-read.read) (string_bytes c.push_str.new.self)
    c.args.text.now c.loop-read.rest.now c.split_plain.result.0.now c.split_plain.result.1.now
    c.loop-read.invariant.read c.split_plain.ensures.whole c.split_plain.ensures.plain c.in_ok-push_str.ensures.bytes)
    (c.in-Some.ensures.some.0 ∙ ap (λ m. m ∷ c.in-Some.behind.now) c.if-first-eq34.true)

pub returns-then-first-ne92-clause-stops : goal.returns-then-first-ne92-clause-stops
returns-then-first-ne92-clause-stops c =
    feed_stops (string_bytes c.push_str.new.self) c.args.text.now c.split_plain.result.1.now
    (IsUtf8-string_bytes c.push_str.new.self)
    (read_plain (string_bytes c.loop-read.read) (string_bytes c.push_str.new.self)
    c.args.text.now c.loop-read.rest.now c.split_plain.result.0.now c.split_plain.result.1.now
    c.loop-read.invariant.read c.split_plain.ensures.whole c.split_plain.ensures.plain c.in_ok-push_str.ensures.bytes)
    (feed_here c.split_plain.result.1.now c.in-Some.first c.in-Some.behind.now c.in-Some.ensures.some.0
    c.if-first-eq34.false c.if-first-ne92.true c.split_plain.ensures.special)

pub returns-in_err-character-clause-stops : goal.returns-in_err-character-clause-stops
returns-in_err-character-clause-stops c =
    let p = err_from_is_err_and c.from_residual-in_err-character.result c.from_residual-in_err-character.ensures.1 in
    let r = read_plain (string_bytes c.loop-read.read) (string_bytes c.push_str.new.self)
    c.args.text.now c.loop-read.rest.now c.split_plain.result.0.now c.split_plain.result.1.now
    c.loop-read.invariant.read c.split_plain.ensures.whole c.split_plain.ensures.plain c.in_ok-push_str.ensures.bytes in
    let e = c.in-Some.ensures.some.0 ∙ ap (λ m. m ∷ c.in-Some.behind.now) c.if-first-ne92.false in
    rw (p.1, p.2) (passed c.in_err-character.field-0.0 _ _ (λ left s. subst (Stops Quoted c.args.text.now) (sym s.0)
    (escape_stops (string_bytes c.push_str.new.self) c.args.text.now c.in-Some.behind.now
    (IsUtf8-string_bytes c.push_str.new.self) (r ∙ ap (λ x. escaped (string_bytes c.push_str.new.self) ++ x) e)
    s.1)) c.in_err-character.ensures.stops)

pub loop-read-preserved : goal.loop-read-preserved
loop-read-preserved c = let r = read_plain (string_bytes c.loop-read.read) (string_bytes c.push_str.new.self)
    c.args.text.now c.loop-read.rest.now c.split_plain.result.0.now c.split_plain.result.1.now
    c.loop-read.invariant.read c.split_plain.ensures.whole c.split_plain.ensures.plain c.in_ok-push_str.ensures.bytes in
    let e = c.in-Some.ensures.some.0 ∙ ap (λ m. m ∷ c.in-Some.behind.now) c.if-first-ne92.false in
    record {
      read = read_escape (string_bytes c.push_str.new.self) (string_bytes c.push_str-in-loop-read.new.self)
          c.args.text.now c.split_plain.result.1.now c.in-Some.behind.now c.in_ok-character.character.now
          c.in_ok-character.behind.now r e c.in_ok-character.ensures.read c.in_ok-push_str-2.ensures.bytes;
      utf8 = c.in_ok-character.ensures.shorter.1;
    }

pub loop-read-init : goal.loop-read-init
loop-read-init c = search rules

pub split_plain-requires-text-text : goal.split_plain-requires-text-text
split_plain-requires-text-text c = search rules

pub push_str-requires-text-string : goal.push_str-requires-text-string
push_str-requires-text-string c = search rules

pub returns-in_err-push_str-clause-read : goal.returns-in_err-push_str-clause-read
returns-in_err-push_str-clause-read c = search rules

pub returns-in_err-push_str-clause-stops : goal.returns-in_err-push_str-clause-stops
returns-in_err-push_str-clause-stops c = search rules

pub split_ascii-requires-text-text : goal.split_ascii-requires-text-text
split_ascii-requires-text-text c = search rules

pub fact_in-behind : goal.fact_in-behind
fact_in-behind c = search rules

pub after_backslash-requires-text-text : goal.after_backslash-requires-text-text
after_backslash-requires-text-text c = search rules

pub returns-in_err-character-clause-read : goal.returns-in_err-character-clause-read
returns-in_err-character-clause-read c = search rules

pub push_str-requires-in-loop-read-text-string : goal.push_str-requires-in-loop-read-text-string
push_str-requires-in-loop-read-text-string c = search rules

pub returns-in_err-push_str-2-clause-read : goal.returns-in_err-push_str-2-clause-read
returns-in_err-push_str-2-clause-read c = search rules

pub returns-in_err-push_str-2-clause-stops : goal.returns-in_err-push_str-2-clause-stops
returns-in_err-push_str-2-clause-stops c = search rules

pub loop-read-smaller : goal.loop-read-smaller
loop-read-smaller c = grind (arith, common_steps)
