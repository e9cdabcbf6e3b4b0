use Rattle.std.proofs.Common.{◌∙◌, sym, arith}
use Rattle.std.specs.Str.{bytes_eq}
use Rattle.ocl_types.specs.Operations.{operation_row}
use Rattle.ocl_types.proofs.FirstLaws.{found_behind}
use Rattle.ocl_types.proofs.operations.+first_operation.Goals as goal

pub returns-else-is_operation : goal.returns-else-is_operation
returns-else-is_operation t c =
    found_behind c.first_operation.result (λ o. bytes_eq c.args.name.now (operation_row o).name) c.args.operations.now _ (omega arith)
    (sym c.is_operation.ensures ∙ c.if-is_operation.false) c.first_operation.ensures
