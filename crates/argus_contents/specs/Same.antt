-- Tests of what is said: whether two values, types, shapes, contents, changes or answers say the
-- same.
use lib.Pointwise.{pointwise}
use Rattle.std.specs.{Bool.beq, Ordering.int_eq, Prelude.{Bool, false, nat_eq, true, ◌&&◌, ◌==◌}}
use Rattle.argus_contents.specs.{Answer.PlainAnswer, Change.PlainChange, Content.PlainContent, Shape.PlainShape}
use Rattle.argus_contents.specs.{Ty.{PlainFields, PlainTy}, Value.{PlainValue, PlainValues, listed}}
use Rattle.argus_contents.specs.declared.signal.Signal.{Signal}
use Rattle.argus_contents.specs.Answer as answer
use Rattle.argus_contents.specs.Change as change
use Rattle.argus_contents.specs.Content as content
use Rattle.argus_contents.specs.Shape as shape
use Rattle.argus_contents.specs.Ty as ty
use Rattle.argus_contents.specs.Value as value
use Rattle.argus_contents.specs.declared.signal.Signal.TheVariants as signal

abbrev mutual
  -- two values say the same: texts by their bytes
  pub same_value : PlainValue → PlainValue → Bool
  same_value value.null value.null = true
  same_value (value.bool a) (value.bool b) = beq a b
  same_value (value.int a) (value.int b) = int_eq a b
  same_value (value.text a) (value.text b) = pointwise nat_eq a b
  same_value (value.atomic a) (value.atomic b) = a == b
  same_value (value.sequence a) (value.sequence b) = same_values a b
  same_value (value.fields a) (value.fields b) = same_values a b
  same_value (value.choice t a) (value.choice u b) = t == u && same_value a b
  same_value _ _ = false

  -- as many values, and each says the same as its counterpart
  pub same_values : PlainValues → PlainValues → Bool
  same_values value.none value.none = true
  same_values (value.more a rest) (value.more b others) = same_value a b && same_values rest others
  same_values _ _ = false

abbrev mutual
  -- two types say the same
  pub same_ty : PlainTy → PlainTy → Bool
  same_ty ty.null ty.null = true
  same_ty ty.bool ty.bool = true
  same_ty ty.int ty.int = true
  same_ty ty.text ty.text = true
  same_ty ty.atomic ty.atomic = true
  same_ty (ty.sequence a) (ty.sequence b) = same_ty a b
  same_ty (ty.fields a) (ty.fields b) = same_fields a b
  same_ty (ty.choice a) (ty.choice b) = same_fields a b
  same_ty _ _ = false

  -- as many names with types, and each says the same as its counterpart
  pub same_fields : PlainFields → PlainFields → Bool
  same_fields ty.none ty.none = true
  same_fields (ty.more m a rest) (ty.more n b others) =
      pointwise nat_eq m n && (same_ty a b && same_fields rest others)
  same_fields _ _ = false

-- two shapes say the same
abbrev pub same_shape : PlainShape → PlainShape → Bool
same_shape (shape.rec a) (shape.rec b) = same_fields a b
same_shape (shape.arr a) (shape.arr b) = same_ty a b
same_shape (shape.var a) (shape.var b) = same_fields a b
same_shape _ _ = false

-- two contents say the same
abbrev pub same_content : PlainContent → PlainContent → Bool
same_content (content.rec a) (content.rec b) = same_values (listed a) (listed b)
same_content (content.arr low a) (content.arr bound b) =
    int_eq low bound && same_values (listed a) (listed b)
same_content (content.var t a) (content.var u b) = t == u && same_value a b
same_content _ _ = false

-- two changes say the same
abbrev pub same_change : PlainChange → PlainChange → Bool
same_change (change.create a) (change.create b) = same_content a b
same_change (change.set_field i a) (change.set_field j b) = i == j && same_value a b
same_change (change.store i a) (change.store j b) = int_eq i j && same_value a b
same_change (change.addh a) (change.addh b) = same_value a b
same_change (change.addl a) (change.addl b) = same_value a b
same_change change.remh change.remh = true
same_change change.reml change.reml = true
same_change (change.set_low i) (change.set_low j) = int_eq i j
same_change (change.trim i m) (change.trim j n) = int_eq i j && int_eq m n
same_change (change.change_tag t a) (change.change_tag u b) = t == u && same_value a b
same_change change.touch change.touch = true
same_change _ _ = false

-- two signals are the same
abbrev pub same_signal : Signal → Signal → Bool
same_signal signal.Absent signal.Absent = true
same_signal signal.Exists signal.Exists = true
same_signal signal.Bounds signal.Bounds = true
same_signal signal.WrongTag signal.WrongTag = true
same_signal signal.NegativeSize signal.NegativeSize = true
same_signal signal.Limits signal.Limits = true
same_signal _ _ = false

-- two answers say the same
abbrev pub same_answer : PlainAnswer → PlainAnswer → Bool
same_answer answer.done answer.done = true
same_answer (answer.val a) (answer.val b) = same_value a b
same_answer (answer.num m) (answer.num n) = int_eq m n
same_answer (answer.flag a) (answer.flag b) = beq a b
same_answer (answer.body a) (answer.body b) = same_content a b
same_answer (answer.signal a) (answer.signal b) = same_signal a b
same_answer _ _ = false
