use Rattle.std.proofs.Common.{◌≡◌, Bool, true}
use Rattle.std.specs.Prelude.{◌&&◌, not}
use Rattle.mof_metamodel.specs.Metamodels.{class_at, class_number, is_primitive}
use Rattle.mof_metamodel.specs.MetaFaults.{is_number}
use Rattle.mof_metamodel.proofs.duplicates.is_new_class.Goals as goal

-- behind a test that holds, the next decides
next_decides : (a b : Bool) {r : Bool} → a ≡ true → r ≡ b → r ≡ (a && b)
next_decides a b e q = rw e q

pub returns-then-not-is_primitive : goal.returns-then-not-is_primitive
returns-then-not-is_primitive c =
    let name = (class_at c.args.named.now c.args.c).name in
    next_decides (not (is_primitive name)) (is_number (class_number c.args.named.now name) c.args.c) (cc) (cc)
