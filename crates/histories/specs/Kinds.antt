-- The code's kinds of loads and operations, as the calls name them.
use Rattle.histories.specs.declared.call.Kind as declared_kind
use Rattle.histories.specs.declared.call.Kind.TheVariants.{Polynomial, Transform}
use Rattle.histories.specs.declared.call.Operation as declared_operation
use Rattle.histories.specs.declared.call.Operation.TheVariants.{Plus, Minus, Times}
use Rattle.histories.specs.Calls.{Kind, polynomial, transform, Operation, plus, minus, times}

abbrev pub kind_of : declared_kind.Kind → Kind
kind_of Polynomial = polynomial
kind_of Transform = transform

abbrev pub operation_of : declared_operation.Operation → Operation
operation_of Plus = plus
operation_of Minus = minus
operation_of Times = times
