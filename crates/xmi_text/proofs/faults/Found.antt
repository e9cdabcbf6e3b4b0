-- Where a fault is told, one of its kind stands.
use Rattle.std.proofs.Common.{◌≡◌, ℕ, List, refl, Some}
use Rattle.xmi_text.specs.Reading.{end_fault_of}
use Rattle.xmi_text.specs.Faults.{IsFaultAt}
use Rattle.xmi_text.specs.declared.error.TextFault.{TextFault}
use Rattle.xmi_text.specs.declared.error.TextKind.{TextKind}
use Rattle.xmi_text.specs.declared.error.TextKind.TheVariants as kinds
use Rattle.xmi_text.proofs.faults.Standing.{bad_mark, open_tag}
use Rattle.xmi_text.proofs.faults.Probing.{bad_name, doctype}
use Rattle.xmi_text.proofs.faults.Entities.{bad_entity}
use Rattle.xmi_text.proofs.faults.Depths.{limit}
use Rattle.xmi_text.proofs.faults.Cuts.{bad_utf8}
use Rattle.xmi_text.proofs.faults.WrongEnds.{wrong_end}
use Rattle.xmi_text.proofs.faults.Twins.{duplicate}

found_by : (bytes : List ℕ) (f : TextFault) (k : TextKind) → f.kind ≡ k → end_fault_of bytes ≡ Some f → IsFaultAt bytes k f.at
found_by bytes f kinds.BadUtf8 k e = bad_utf8 bytes f e k
found_by bytes f kinds.BadMark k e = bad_mark bytes f e k
found_by bytes f kinds.BadName k e = bad_name bytes f e k
found_by bytes f kinds.OpenTag k e = open_tag bytes f e k
found_by bytes f kinds.WrongEnd k e = wrong_end bytes f e k
found_by bytes f kinds.DuplicateAttribute k e = duplicate bytes f e k
found_by bytes f kinds.BadEntity k e = bad_entity bytes f e k
found_by bytes f kinds.Doctype k e = doctype bytes f e k
found_by bytes f kinds.Limit k e = limit bytes f e k

pub found : (bytes : List ℕ) (f : TextFault) → end_fault_of bytes ≡ Some f → IsFaultAt bytes f.kind f.at
found bytes f e = found_by bytes f f.kind refl e
