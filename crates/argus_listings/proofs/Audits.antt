-- What the journal's writes leave when they are run again is what the journal says of the object.
use Rattle.std.proofs.Common.{List, Option, Some, ap, map, ℕ, ◌++◌, ◌∙◌, ◌∷◌, ◌≡◌, None, [], append_assoc, arith, cond}
use Rattle.std.proofs.Common.{nat_lt, refl, subst, sym, true, ◌<◌}
use Rattle.std.specs.Option.{unwrap_or}
use Rattle.argus_contents.specs.Content.{PlainContent}
use Rattle.argus_entries.specs.Entry.{PlainEntry}
use Rattle.argus_core.specs.Objects.{version_pair, where_declared}
use Rattle.argus_journal.proofs.Replay.{replayed_base, replayed_seen}
use Rattle.argus_journal.specs.{Legal.Legal, Objects.declared, Opening.Opening, JournalView.JournalView}
use Rattle.argus_journal.specs.JournalFacts.{base_of, visible_to, versions_of, writers_of}
use Rattle.argus_objects.specs.declared.version.Version.{Version}
use Rattle.argus_listings.specs.Listing.{audit_text, base_again, base_line, seen_again, version_lines, versions_again}

-- an action with what it sees
abbrev seen_as : (ℕ → Option PlainContent) → ℕ → ℕ × Option PlainContent
seen_as sees a = (a, sees a)

-- the holder of a version with what it sees
abbrev held_as : (ℕ → Option PlainContent) → Version → ℕ × Option PlainContent
held_as sees v = (v.holder.0, sees v.holder.0)

-- an action, behind which a content stands, with what it sees
abbrev again_as : (ℕ → Option PlainContent) → ℕ × Option PlainContent → ℕ × Option PlainContent
again_as sees p = (p.0, sees p.0)

module _ (journal : JournalView) (legal : Legal journal.opening journal.entries) (o : ℕ) where
  pub base_same : base_again journal o ≡ base_of journal.opening journal.entries o
  base_same = replayed_base journal.opening journal.entries legal o

  each_same : (actions : List ℕ) → map (seen_as (λ a. seen_again journal a o)) actions
      ≡ map (seen_as (λ a. visible_to journal.opening journal.entries a o)) actions
  each_same [] = refl
  each_same (a ∷ actions) =
      let with : Option PlainContent → ℕ × Option PlainContent = λ c. (a, c) in
      ap (λ c. with c ∷ map (seen_as (λ b. seen_again journal b o)) actions)
      (replayed_seen journal.opening journal.entries legal (record { 0 = a }) o)
      ∙ ap (λ l. with (visible_to journal.opening journal.entries a o) ∷ l) (each_same actions)

  pub versions_same : versions_again journal o ≡ versions_of journal.opening journal.entries o
  versions_same = each_same (writers_of journal.opening journal.entries o)

  pub audit_same : (name : List ℕ) → audit_text journal o name
      ≡ base_line name (base_of journal.opening journal.entries o)
      ++ version_lines name (versions_of journal.opening journal.entries o)
  audit_same name =
      ap (λ c. base_line name c ++ version_lines name (versions_again journal o)) base_same
      ∙ ap (λ vs. base_line name (base_of journal.opening journal.entries o) ++ version_lines name vs) versions_same

holders : (sees : ℕ → Option PlainContent) (actions : List ℕ)
    → map (again_as sees) (map (seen_as sees) actions) ≡ map (seen_as sees) actions
holders sees [] = refl
holders sees (a ∷ actions) = ap (λ l. seen_as sees a ∷ l) (holders sees actions)

again : (sees : ℕ → Option PlainContent) (vs : List Version)
    → map (held_as sees) vs ≡ map (again_as sees) (map version_pair vs)
again sees [] = refl
again sees (v ∷ vs) = ap (λ l. held_as sees v ∷ l) (again sees vs)

-- the holders of these versions, each with what it sees, are these versions
pub versions_seen : (sees : ℕ → Option PlainContent) (vs : List Version) (actions : List ℕ)
    → map version_pair vs ≡ map (seen_as sees) actions → map (held_as sees) vs ≡ map (seen_as sees) actions
versions_seen sees vs actions e = again sees vs ∙ ap (map (again_as sees)) e ∙ holders sees actions

-- what is told of a declared object
pub told_there : {A : Type 0} (journal : JournalView) (o : ℕ) (x y : A) → o < declared journal.opening journal.entries
    → Some x ≡ where_declared journal o y → x ≡ y
told_there journal o x y low e =
    let there : nat_lt o (declared journal.opening journal.entries) ≡ true = grind (arith, low) in
    let same : Some x ≡ Some y = e ∙ ap (λ b. cond b (Some y) None) there in
    ap (λ k. unwrap_or k x) same

-- the lines of an audit, from the journal with this opening and these entries
pub audited : (journal : JournalView) (legal : Legal journal.opening journal.entries) (o : ℕ) (name : List ℕ)
    (s : Opening)
    (j : List PlainEntry) (vs : List Version) (text mid : List ℕ) → s ≡ journal.opening → j ≡ journal.entries
    → map version_pair vs ≡ versions_of journal.opening journal.entries o → mid ≡ text ++ base_line name (base_of s j o)
    → mid ++ version_lines name (map (held_as (λ a. visible_to s j a o)) vs) ≡ text ++ audit_text journal o name
audited journal legal o name s j vs text mid e f told =
    subst (λ k. Audited k j) (sym e) (subst (λ k. Audited journal.opening k) (sym f) from_said)
  where
    Audited : Opening → List PlainEntry → Type 0
    Audited k l = mid ≡ text ++ base_line name (base_of k l o)
        → mid ++ version_lines name (map (held_as (λ a. visible_to k l a o)) vs) ≡ text ++ audit_text journal o name

    from_said : Audited journal.opening journal.entries
    from_said h =
        let sees : ℕ → Option PlainContent = λ a. visible_to journal.opening journal.entries a o in
        let base = base_line name (base_of journal.opening journal.entries o) in
        ap (λ k. k ++ version_lines name (map (held_as sees) vs)) h ∙ ap (λ k. (text ++ base) ++ version_lines name k)
        (versions_seen sees vs (writers_of journal.opening journal.entries o) told)
        ∙ append_assoc text base (version_lines name (versions_of journal.opening journal.entries o))
        ∙ ap (λ k. text ++ k) (sym (audit_same journal legal o name))
