-- A `&` to a `Count` holds what it knows, which lasts. Assumes `Logic`.
use base.Logic.{snd∗}
use base.Before.{before}
use types.Logic.{sem}
use denote.Param.Shared.{copy_shared}
use denote.Struct.Field.{RawPtr-field}
use denote.Struct.Laws.{RawPtr-copy}
use denote.Struct.Lending.{of_Lends}
use Rattle.argus_memory.specs.Count.{lasts}
use Rattle.argus_memory.specs.contracts.count.Count as C
use Rattle.argus_memory.proofs.{Lasting.{lasts_twice, lasts_lends}, count.Count.TheLaw.Statement.statement}

pub shares : statement
shares = of_Lends C.struct C.the_codes C.the_heap C.the_lent
    (λ d p. record {
      contraction = λ M 𝓤 𝓛 κ. lasts_twice 𝓛 d.at;
      mono = λ M 𝓤 𝓛 κ' κ. snd∗ 𝓤 (sem 𝓛 (before κ' κ)) (sem 𝓛 (lasts d.at));
    })
    (copy_shared RawPtr-field RawPtr-copy, tt) (λ M 𝓤 𝓛 d p. lasts_lends 𝓛 d.at C.the_row.lives)
