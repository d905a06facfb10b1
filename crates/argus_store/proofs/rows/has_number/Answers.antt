use Rattle.std.proofs.lemmas.Bool.Decides.{Decides-eqb}
use Rattle.argus_store.proofs.rows.has_number.Goals as goal

pub returns-in-Some : goal.returns-in-Some
returns-in-Some c z more is =
    let at = c.number_of.ensures z more is c.args.number in
    let same = Decides-eqb c.in-Some.found c.args.number in (
      λ t. at.0 (let e = same.0 t in let h = c.in-Some.is in cc),
      λ e. same.1 (let a = at.1 e in let h = c.in-Some.is in cc),
    )

pub returns-in-None : goal.returns-in-None
returns-in-None c z more is =
    let at = c.number_of.ensures z more is c.args.number in (
      λ t. absurd (let e = t in cc),
      λ e. absurd (let a = at.1 e in let h = c.in-None.is in cc),
    )
