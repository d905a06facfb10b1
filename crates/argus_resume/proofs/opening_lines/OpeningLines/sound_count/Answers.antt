-- An object that fits stays in the front, and one that doesn't ends it.
use Rattle.std.proofs.{Common.{arith, inl, inr, sym, ◌-◌, ◌∙◌, ◌≡◌}, lemmas.Bool.cases_lt}
use Rattle.argus_resume.proofs.Sound.{count_found, found_fails, found_fits}
use Rattle.argus_resume.proofs.opening_lines.OpeningLines.sound_count.Goals as goal

pub loop-o-preserved-then-not-fits : goal.loop-o-preserved-then-not-fits
loop-o-preserved-then-not-fits c =
    let lines = c.args.self.now in
    let i = c.loop-o.invariant in
    record {
      low = omega arith;
      high = omega (arith, i.low, i.high);
      fit = λ k d from to. absurd (omega (arith, from, to));
      same = i.same ∙ found_fails lines.objects.items lines.first_action lines.first_entry (c.loop-o.o - 1)
          c.loop-o.count c.index.result.now (omega (arith, i.low)) i.high c.index.ensures
          (sym c.fits.ensures ∙ c.if-not-fits.true);
    }

pub loop-o-preserved : goal.loop-o-preserved
loop-o-preserved c =
    let lines = c.args.self.now in
    let i = c.loop-o.invariant in
    let here = sym c.fits.ensures ∙ c.if-not-fits.false in
    record {
      low = omega (arith, i.low);
      high = i.high;
      fit = λ k d from to. elim (cases_lt k c.loop-o.o) [
        | inl less ↦
            let same : k ≡ c.loop-o.o - 1 = omega (arith, from, less) in
            found_fits lines.objects.items k c.loop-o.count c.index.result.now d (omega (arith, to, i.high))
            (rw same c.index.ensures) here
        | inr past ↦ i.fit k d past to
      ];
      same = i.same;
    }

pub returns : goal.returns
returns c =
    let lines = c.args.self.now in
    let i = c.loop-o.invariant in
    sym (i.same ∙ count_found lines.objects.items lines.first_action lines.first_entry c.loop-o.count i.high
    (λ k d to. i.fit k d (omega (arith, c.loop-o-test.false)) to))
