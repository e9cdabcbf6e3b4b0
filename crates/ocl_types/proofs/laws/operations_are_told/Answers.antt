use Rattle.ocl_types.proofs.RowLaws.{operation_told, collection_told, iterator_told}
use Rattle.ocl_types.proofs.laws.operations_are_told.Goals as goal

pub returns-clause-single : goal.returns-clause-single
returns-clause-single c = operation_told

pub returns-clause-collection : goal.returns-clause-collection
returns-clause-collection c = λ operation kind of args t. collection_told c.args.metas.now kind of operation args t

pub returns-clause-iterator : goal.returns-clause-iterator
returns-clause-iterator c = iterator_told
