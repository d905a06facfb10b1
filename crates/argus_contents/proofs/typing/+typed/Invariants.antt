-- What is left of the values decides whether all are typed.
use Rattle.std.proofs.Common.{◌≡◌, drop}
use Rattle.argus_contents.specs.{Ty.{plain_ty, plain_fields}, Typing.{all_typed, each_typed}}
use Rattle.argus_contents.specs.Value.{listed, plain_list}
use Rattle.argus_contents.proofs.typing.+typed.Given as goal

abbrev pub invariant-all_have_type-loop-value : goal.invariant-all_have_type-loop-value
invariant-all_have_type-loop-value l =
    all_typed (plain_ty l.ty) l.declared (listed (plain_list l.values))
    ≡ all_typed (plain_ty l.ty) l.declared (listed (plain_list (drop l.value-index l.values)))

abbrev pub invariant-each_has_type-loop-i : goal.invariant-each_has_type-loop-i
invariant-each_has_type-loop-i l =
    each_typed (plain_fields l.names) l.declared (listed (plain_list l.values))
    ≡ each_typed (plain_fields (drop l.i l.names)) l.declared (listed (plain_list (drop l.i l.values)))
