-- What a line that was read says.
use Rattle.std.specs.Prelude.{ℕ, List}
use Rattle.argus_language.specs.{Command.Command, declared.line.Line.Line}
use Rattle.argus_language.specs.Operation.{AnyOperation, RecordOperation, ArrayOperation, VariantOperation, Operation}
use Rattle.argus_language.specs.Command as command
use Rattle.argus_language.specs.Operation as plain
use Rattle.argus_language.specs.declared.any_operation.AnyOperation as any
use Rattle.argus_language.specs.declared.any_operation.AnyOperation.TheVariants as on_any
use Rattle.argus_language.specs.declared.array_operation.ArrayOperation as array
use Rattle.argus_language.specs.declared.array_operation.ArrayOperation.TheVariants as on_array
use Rattle.argus_language.specs.declared.line.Line.TheVariants as line
use Rattle.argus_language.specs.declared.operation.Operation as operation
use Rattle.argus_language.specs.declared.operation.Operation.TheVariants as by
use Rattle.argus_language.specs.declared.record_operation.RecordOperation as on_field
use Rattle.argus_language.specs.declared.record_operation.RecordOperation.TheVariants as on_record
use Rattle.argus_language.specs.declared.variant_operation.VariantOperation as on_tag
use Rattle.argus_language.specs.declared.variant_operation.VariantOperation.TheVariants as by_tag

-- what an operation on any object says
abbrev pub plain_any : any.AnyOperation → AnyOperation
plain_any (on_any.Create text) = plain.create text.now
plain_any on_any.Read = plain.read
plain_any on_any.Touch = plain.touch

-- what an operation on a record says
abbrev pub plain_record_operation : on_field.RecordOperation → RecordOperation
plain_record_operation on_record.Get = plain.get
plain_record_operation (on_record.Set text) = plain.set text.now

-- what an operation on an array says
abbrev pub plain_array_operation : array.ArrayOperation → ArrayOperation
plain_array_operation on_array.Low = plain.low
plain_array_operation on_array.High = plain.high
plain_array_operation on_array.Size = plain.size
plain_array_operation on_array.Bottom = plain.bottom
plain_array_operation on_array.Top = plain.top
plain_array_operation (on_array.Fetch i) = plain.fetch i
plain_array_operation (on_array.Store i text) = plain.store i text.now
plain_array_operation (on_array.Addh text) = plain.addh text.now
plain_array_operation (on_array.Addl text) = plain.addl text.now
plain_array_operation on_array.Remh = plain.remh
plain_array_operation on_array.Reml = plain.reml
plain_array_operation (on_array.SetLow i) = plain.set_low i
plain_array_operation (on_array.Trim from count) = plain.trim from count

-- what an operation on a variant says
abbrev pub plain_variant_operation : on_tag.VariantOperation → VariantOperation
plain_variant_operation by_tag.IsTag = plain.is_tag
plain_variant_operation by_tag.TagValue = plain.tag_value
plain_variant_operation (by_tag.ChangeTag text) = plain.change_tag text.now

-- what an operation says
abbrev pub plain_operation : operation.Operation → Operation (List ℕ)
plain_operation (by.Any o) = plain.of_any (plain_any o)
plain_operation (by.Record field o) = plain.of_record field.now (plain_record_operation o)
plain_operation (by.Array o) = plain.of_array (plain_array_operation o)
plain_operation (by.Variant tag o) = plain.of_variant tag.now (plain_variant_operation o)

-- what a line says
abbrev pub plain_line : Line → Command
plain_line line.Nothing = command.nothing
plain_line line.Bad = command.bad
plain_line (line.Declare name shape) = command.declare name.now shape.now
plain_line (line.Enter k) = command.enter k
plain_line line.Coenter = command.coenter
plain_line (line.Arm k) = command.arm k
plain_line (line.If l name) = command.test l name.now
plain_line line.Leave = command.leave
plain_line line.AbortLeave = command.abort_leave
plain_line line.LeaveAll = command.leave_all
plain_line line.End = command.«end»
plain_line (line.Access name o) = command.access name.now (plain_operation o)
