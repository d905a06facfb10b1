-- A type and a value, level by level.
use Rattle.std.proofs.Common.{◌≡◌, ℕ, Vec, Box, rules}
use Rattle.argus_memory.specs.declared.limited.Limited.{Limited}
use Rattle.std.specs.declared.alloc.Global.{Global}
use Rattle.argus_contents.specs.{Ty.{plain_ty, plain_fields}, Value.{plain_value, plain_list, listed}}
use Rattle.argus_contents.specs.{declared.name.Name.Name, declared.ty.Ty.{Ty, the_lemmas}, declared.value.Value.Value}
use Rattle.argus_contents.specs.Ty as plain
use Rattle.argus_contents.specs.Value as said
use Rattle.argus_contents.specs.declared.ty.Ty as T
use Rattle.argus_contents.specs.declared.value.Value as V

abbrev Heap : Type 0
Heap = Limited Global

pub plain_ty-Fields : (fs : Vec (Name × Ty) Heap) → plain_ty (T.Fields fs) ≡ plain.fields (plain_fields fs.items)
plain_ty-Fields fs = search (rules, the_lemmas)

pub plain_ty-Choice : (fs : Vec (Name × Ty) Heap) → plain_ty (T.Choice fs) ≡ plain.choice (plain_fields fs.items)
plain_ty-Choice fs = search (rules, the_lemmas)

pub plain_value-Fields : (b : Box (Vec Value Heap) Heap) → plain_value (V.Fields b)
    ≡ said.fields (listed (plain_list b.value.items))
plain_value-Fields b = search (rules, V.the_lemmas)

pub plain_value-Choice : (t : ℕ) (b : Box Value Heap) → plain_value (V.Choice t b) ≡ said.choice t (plain_value b.value)
plain_value-Choice t b = search (rules, V.the_lemmas)
