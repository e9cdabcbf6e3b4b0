use Rattle.std.proofs.Common.{ℕ, List, ◌∙◌, ap}
use Rattle.model_assembly.specs.Elements.{concrete_class}
use Rattle.xmi_profile.proofs.Literals.{primitive}
use Rattle.xmi_profile.proofs.numbering.primitive_class.Goals as goal

pub returns-clause-class : goal.returns-clause-class
returns-clause-class c = c.concrete_class.ensures.class ∙ ap (λ (name : List ℕ). concrete_class c.args.meta.now name) primitive
