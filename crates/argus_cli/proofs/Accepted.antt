-- The value that an option has passed the option's parser.
use Rattle.std.proofs.Common.{Bool, List, None, Option, Some, [], ap, arith, false, inl, inr, length, refl, subst, suc}
use Rattle.std.proofs.{Common.{sym, true, zero, ℕ, ◌<◌, ◌∙◌, ◌∷◌, ◌≡◌}, lemmas.List.{get_or-map, length-map}}
use Rattle.std.proofs.{lemmas.List.Elements.All-get_or, lemmas.Slice.Eq.bytes_eq-Decides}
use Rattle.std.specs.{Borrow.Bor, List.{All, slice_index_or}, Str.bytes_eq}
use Rattle.std.specs.Prelude.{Ok, Result, codes, map, option_map, pos, slice_get, unwrap_or, ◌^◌, ◌≤◌}
use Rattle.std.specs.Str.Parse.{ParsesBool, ParsesUnsigned, digits_value, without_leading_plus}
use Rattle.clap.specs.{Built.SameRules, Facts.{Entry, EntryPasses, HasReading, PassesArg, ValuesPass, parser_of_value}}
use Rattle.clap.specs.Words.{Accepts, App, IsParsedFrom, Rule, Text, args_of, found_of, groups_of, matched_of, one_text}
use Rattle.clap.specs.{Words.{parser_of, read_as, reading_of, rule_of, without_minus}, declared.builder.arg.Arg.Arg}
use Rattle.clap.specs.{declared.builder.command.Command.Command, declared.builder.value_parser.Reading.Reading}
use Rattle.clap.specs.{declared.builder.value_parser.ValueParser.ValueParser, declared.parser.matches.Found.Found}
use Rattle.clap.specs.{declared.parser.matches.ArgMatches.ArgMatches, declared.parser.matches.MatchedArg.MatchedArg}
use Rattle.clap.specs.{Matches.ReadsOne, Values.IsSignedIn}
use Rattle.clap.proofs.{CallerLemmas.{entry_by_id, same_rules_by_id}, CallerReads.signed_reads}
use Rattle.clap.specs.declared.builder.value_parser.ValueParser.TheVariants as vp
use Rattle.argus_cli.specs.CommandLine.{IsProgram, is_given, listing_named, listing_or_bases, number_or, program}
use Rattle.argus_cli.specs.declared.limits.TheConstants.{MAX_PATIENCE, MAX_WORKERS}

first_read : (P : Bor Text → Type 0) (how : Reading) (vs : List (Bor Text)) (t : Text) → All P vs
    → option_map (λ s. read_as how s.now) (slice_get vs 0) ≡ Some t → (v : Bor Text) × (t ≡ read_as how v.now) × P v
first_read P how [] t all is = cc
first_read P how (v ∷ vs) t all is =
    (v, sym (ap (λ (o : Option Text). unwrap_or o t) is), All-get_or P (v ∷ vs) 0 v (omega arith) all)

-- the value of an entry passed the parser of an argument with its id, and is read by one's
record IsRead (c : Command) (id t : Text) : Type 0 where
  pub how : Reading
  pub value : Bor Text
  pub is : t ≡ read_as how value.now
  pub passes : PassesArg c id value.now
  pub reads : HasReading c id how

some_is_not_none : (t : Text) → Some t ≡ None → ⊥
some_is_not_none t is = cc

-- an entry that is an argument's, and its first value
read_of : (c : Command) (f : Found) (id t : Text) (x : MatchedArg) (e : Entry) → groups_of c ≡ [] → (id ≡ [] → ⊥)
    → e.1 ≡ x → e.0.now ≡ id → EntryPasses c e → option_map (λ s. read_as x.reading s.now)
    (slice_get x.vals.items 0) ≡ Some t → IsRead c id t
read_of c f id t x e no_groups named same key pass first =
    let no_group : e.1.is_group ≡ true → ⊥ = λ g. elim (pass.3 g) [
      | inl empty ↦ named (sym key ∙ empty)
      | inr lots ↦
          let bad : 0 < 0 = rw no_groups at lots in
          absurd (omega arith)
    ] in
    let passed : All (λ v. PassesArg c id v.now) x.vals.items = elim pass.0 [
      | inl g ↦ absurd (no_group g)
      | inr all ↦ subst (λ (w : Text). All (λ v. PassesArg c w v.now) x.vals.items) key (rw same at all)
    ] in
    let how : HasReading c id x.reading = elim pass.4 [
      | inl g ↦ absurd (no_group g)
      | inr h ↦ subst (λ (w : Text). HasReading c w x.reading) key (rw same at h)
    ] in
    finish (first_read (λ v. PassesArg c id v.now) x.reading x.vals.items t passed first) how
  where
    finish : ((v : Bor Text) × (t ≡ read_as x.reading v.now) × PassesArg c id v.now) → HasReading c id x.reading
        → IsRead c id t
    finish read how = record { how = x.reading; value = read.0; is = read.1; passes = read.2; reads = how }

entry_read : (c : Command) (f : Found) (id t : Text) → ValuesPass c f → groups_of c ≡ [] → (id ≡ [] → ⊥)
    → one_text f id ≡ Some t → IsRead c id t
entry_read c f id t values no_groups named is = go (matched_of f id) refl (sym is)
  where
    step : (x : MatchedArg) → matched_of f id ≡ Some x → Some t ≡ one_text f id
        → ((e : Entry) × (e.1 ≡ x) × (bytes_eq e.0.now id ≡ true) × EntryPasses c e) → IsRead c id t
    step x found is got =
        let first : one_text f id ≡ option_map (λ s. read_as x.reading s.now) (slice_get x.vals.items 0) = rw found refl in
        read_of c f id t x got.0 no_groups named got.1 ((bytes_eq-Decides got.0.0.now id).0 got.2) got.3 (sym (is ∙ first))

    go : (o : Option MatchedArg) → matched_of f id ≡ o → Some t ≡ one_text f id → IsRead c id t
    go None found is =
        let none : one_text f id ≡ None = rw found refl in
        absurd (some_is_not_none t (is ∙ none))
    go (Some x) found is = step x found is (entry_by_id (EntryPasses c) f.entries.items id x values found)

module _ (c : Command) (p : IsProgram c) (m : ArgMatches) (parsed : IsParsedFrom c m) where
  rules_are : map rule_of (args_of c) ≡ (program p.listings).top.rules
  rules_are = ap (λ (a : App). a.top.rules) p.app

  are_four : length (args_of c) ≡ 4
  are_four = sym (length-map (args_of c) rule_of) ∙ ap length rules_are

  rule_at : (k : ℕ) (d : Arg) → k < 4 → rule_of (slice_index_or (args_of c) k d) ≡ slice_index_or
      (program p.listings).top.rules k (rule_of d)
  rule_at k d lt = sym (get_or-map rule_of (args_of c) k d (rule_of d) (omega (arith, are_four)))
      ∙ ap (λ (rs : List Rule). slice_index_or rs k (rule_of d)) rules_are

abbrev id_at : ℕ → Text
id_at j = slice_index_or (codes "workers" ∷ codes "patience" ∷ codes "list" ∷ codes "checkpoint" ∷ []) j []

-- no other option has this one's id
abbrev IsAlone : ℕ → Type 0
IsAlone k = (j : ℕ) → j < 4 → bytes_eq (id_at j) (id_at k) ≡ true → j ≡ k

workers_alone : IsAlone 0
workers_alone zero lt same = refl
workers_alone (suc (suc (suc (suc j)))) lt same = cc
workers_alone j lt same = cc

patience_alone : IsAlone 1
patience_alone (suc zero) lt same = refl
patience_alone (suc (suc (suc (suc j)))) lt same = cc
patience_alone j lt same = cc

module _ (c : Command) (p : IsProgram c) (m : ArgMatches) (parsed : IsParsedFrom c m) where
  id_is : (k : ℕ) (d : Arg) → k < 4 → (slice_index_or (args_of c) k d).id.now ≡ id_at k
  id_is k d lt = ap (λ (r : Rule). r.id) (rule_at c p m parsed k d lt)
      ∙ sym (get_or-map (λ (r : Rule). r.id) (program p.listings).top.rules k (rule_of d) [] lt)

  -- an argument of the built command with an option's id has its rules
  same_rules : (k j : ℕ) (d x : Arg) → k < 4 → IsAlone k → (id_at k ≡ codes "help" → ⊥)
      → (id_at k ≡ codes "version" → ⊥)
      → j < length (args_of parsed.built) → slice_index_or (args_of parsed.built) j x ≡ x
      → bytes_eq x.id.now (id_at k) ≡ true → SameRules (slice_index_or (args_of c) k d) x
  same_rules k j d x lt alone no_help no_version below at same =
      let four = are_four c p m parsed in
      let id = id_is k d lt in
      same_rules_by_id c m parsed k d (omega (arith, four))
      (λ i e under eq. alone i (omega (arith, four)) (rw (id_is i e (omega (arith, four)), id) at eq))
      (λ auto. elim auto [ inl h ↦ no_help (sym id ∙ h) | inr h ↦ no_version (sym id ∙ h) ]) j x below at (rw id same)

  accepted : (k : ℕ) (q : ValueParser) (t : Text) → k < 4 → IsAlone k → (id_at k ≡ codes "help" → ⊥)
      → (id_at k ≡ codes "version" → ⊥)
      → (id_at k ≡ [] → ⊥) → ((d : Arg) → (slice_index_or (args_of c) k d).value_parser ≡ Some q)
      → ((d : Arg) → (slice_index_or (args_of c) k d).ignore_case ≡ false)
      → one_text (found_of m) (id_at k) ≡ Some t → (v : Text) × (t ≡ read_as (reading_of q) v) × Accepts false q v
  accepted k q t lt alone no_help no_version named parser cased is =
      let all = parsed.parsed (parsed.from.globals ∙ p.no_globals) in
      let read = entry_read parsed.built (found_of m) (id_at k) t all.values (parsed.from.plain p.plain).1 named is in
      let pass = read.passes in
      let how = read.reads in
      let rules = same_rules k pass.0 pass.1 pass.1 lt alone no_help no_version pass.2 pass.3 pass.4.0 in
      let rules' = same_rules k how.0 how.1 how.1 lt alone no_help no_version how.2 how.3 how.4.0 in
      let is_q : parser_of pass.1 ≡ q = ap parser_of_value (rules.parser q (parser pass.1)) in
      let is_q' : parser_of how.1 ≡ q = ap parser_of_value (rules'.parser q (parser how.1)) in
      let by_q : Accepts pass.1.ignore_case q read.value.now = subst (λ
      (w : ValueParser). Accepts pass.1.ignore_case w read.value.now) is_q pass.4.1 in (
        read.value.now,
        read.is ∙ ap (λ (r : Reading). read_as r read.value.now) (sym how.4.1 ∙ ap reading_of is_q'),
        subst (λ (b : Bool). Accepts b q read.value.now) (rules.ignore_case ∙ cased pass.1) by_q,
      )

-- what a number's option gives: the number that its value spells, within the range of its parser
pub record IsWithin (least most other n : ℕ) (text : Option Text) : Type 0 where
  pub low : least ≤ n
  pub high : n ≤ most
  pub is : n ≡ number_or other text

module _ (E : Type 0) (G : Text → Result ℕ E → Type 0) (only : (u : Text) (x : Result ℕ E) → G u x
    → ParsesUnsigned 32 10 u x) where
  pub number_read : (low high other n : ℕ) (o : Option Text) (r : Option ℕ) → low ≤ other → other ≤ high → high < 2 ^ 32
      → (o ≡ None → r ≡ None) → ((t : Text) → o ≡ Some t → ReadsOne G t r)
      → ((t : Text) → o ≡ Some t → (v : Text) × (t ≡ without_minus v) × IsSignedIn (pos low) (pos high) v)
      → n ≡ unwrap_or r other → IsWithin low high other n o
  number_read low high other n None r least most fits none some passed is =
      let same : n ≡ other = is ∙ ap (λ (q : Option ℕ). unwrap_or q other) (none refl) in
      record { low = rw same least; high = rw same most; is = same }
  number_read low high other n (Some t) r least most fits none some passed is =
      let value = passed t refl in
      let reads : ReadsOne G (without_minus value.0) r = subst (λ (u : Text). ReadsOne G u r) value.1 (some t refl) in
      let got = signed_reads E G 32 low high value.0 r reads only fits value.2 in
      let same : n ≡ got.0 = is ∙ ap (λ (q : Option ℕ). unwrap_or q other) got.1 in
      let digits : got.0 ≡ digits_value 10 (without_leading_plus t) =
      (only t (Ok got.0) (subst (λ (q : Option ℕ). ReadsOne G t q) got.1 (some t refl))).1 in
      record { low = rw same got.2; high = rw same got.3; is = same ∙ digits }

module _ (c : Command) (p : IsProgram c) (m : ArgMatches) (parsed : IsParsedFrom c m) where
  pub workers_accepted : (t : Text) → one_text (found_of m) (codes "workers") ≡ Some t
      → (v : Text) × (t ≡ without_minus v) × IsSignedIn (pos 1) (pos MAX_WORKERS) v
  workers_accepted t is = accepted c p m parsed 0 (vp.Signed (pos 1) (pos MAX_WORKERS)) t (omega arith) workers_alone
      (λ e. let bad : 119 ≡ 104 = ap (λ (l : Text). slice_index_or l 0 0) e in absurd (omega arith))
      (λ e. let bad : 119 ≡ 118 = ap (λ (l : Text). slice_index_or l 0 0) e in absurd (omega arith))
      (λ e. let bad : 119 ≡ 0 = ap (λ (l : Text). slice_index_or l 0 0) e in absurd (omega arith))
      (λ d. ap (λ (r : Rule). r.parser) (rule_at c p m parsed 0 d (omega arith)))
      (λ d. ap (λ (r : Rule). r.ignore_case) (rule_at c p m parsed 0 d (omega arith))) is

  pub patience_accepted : (t : Text) → one_text (found_of m) (codes "patience") ≡ Some t
      → (v : Text) × (t ≡ without_minus v) × IsSignedIn (pos 0) (pos MAX_PATIENCE) v
  patience_accepted t is = accepted c p m parsed 1 (vp.Signed (pos 0) (pos MAX_PATIENCE)) t (omega arith) patience_alone
      (λ e. let bad : 112 ≡ 104 = ap (λ (l : Text). slice_index_or l 0 0) e in absurd (omega arith))
      (λ e. let bad : 112 ≡ 118 = ap (λ (l : Text). slice_index_or l 0 0) e in absurd (omega arith))
      (λ e. let bad : 112 ≡ 0 = ap (λ (l : Text). slice_index_or l 0 0) e in absurd (omega arith))
      (λ d. ap (λ (r : Rule). r.parser) (rule_at c p m parsed 1 d (omega arith)))
      (λ d. ap (λ (r : Rule). r.ignore_case) (rule_at c p m parsed 1 d (omega arith))) is

pub listing_or : (o : Option (Bor Text)) (d : Bor Text) → d.now ≡ codes "bases"
    → listing_named (unwrap_or o d).now ≡ listing_or_bases (option_map (λ s. s.now) o)
listing_or None d is = rw is refl
listing_or (Some s) d is = refl

not_equal : (t u : Text) → (t ≡ u → ⊥) → bytes_eq t u ≡ false
not_equal t u differ = go (bytes_eq t u) refl
  where
    go : (same : Bool) → bytes_eq t u ≡ same → bytes_eq t u ≡ false
    go true same = absurd (differ ((bytes_eq-Decides t u).0 same))
    go false same = same

module _ (E : Type 0) where
  pub flag_read : (o : Option Text) (r : Option Bool) (given : Bool) → (o ≡ None → r ≡ None)
      → ((t : Text) → o ≡ Some t → ReadsOne (λ (u : Text) (x : Result Bool E). ParsesBool u x) t r)
      → given ≡ unwrap_or r false → given ≡ is_given o
  flag_read None r given none some is = is ∙ ap (λ (q : Option Bool). unwrap_or q false) (none refl)
  flag_read (Some t) None given none some is = is ∙ sym (not_equal t (codes "true") (some t refl).1.0)
  flag_read (Some t) (Some true) given none some is = is ∙ sym (ap (λ u. bytes_eq u (codes "true")) (some t refl))
  flag_read (Some t) (Some false) given none some is = is ∙ sym (ap (λ u. bytes_eq u (codes "true")) (some t refl))
