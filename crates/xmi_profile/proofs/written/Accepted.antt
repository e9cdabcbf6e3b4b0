-- What is written of a model is refused for no fault.
use Rattle.std.proofs.Common.{◌≡◌, ℕ, List, subst, arith, Option, None, Some}
use Rattle.std.specs.Option.{option_map}
use Rattle.object_tables.specs.declared.breach.Breach.{Breach}
use Rattle.object_tables.specs.declared.breach.BreachKind.{BreachKind}
use Rattle.object_tables.specs.declared.breach.BreachKind.TheVariants as kinds
use Rattle.object_tables.specs.declared.limit.LimitKind.TheVariants as limits
use Rattle.object_tables.specs.Containment.{IsDepth}
use Rattle.object_tables.specs.Models.{ModelData}
use Rattle.object_tables.specs.Validity.{Valid, IsFirst}
use Rattle.xmi_text.specs.Markup.{Markup}
use Rattle.xmi_text.specs.Trees.{Tree}
use Rattle.xmi_text.proofs.forward.Spelled.{markup_spelled}
use Rattle.xmi_text.proofs.reading.Staying.{one_spelled}
use Rattle.model_assembly.specs.declared.fault.Externs.TheVariants as externs
use Rattle.model_assembly.specs.declared.fault.ModelFault.{ModelFault}
use Rattle.model_assembly.specs.declared.fault.ModelFault.TheVariants as faults
use Rattle.xmi_profile.specs.Canon.{canon_bytes}
use Rattle.model_assembly.specs.Content.{Content}
use Rattle.model_assembly.specs.FirstFault.{IsFirstAt, IsFirstBy, IsInvalid, IsTooDeep, IsFirstFault}
use Rattle.model_assembly.specs.Held.{MayBeWritten}
use Rattle.xmi_profile.specs.Reads.{IsRefused, source_of}
use Rattle.model_assembly.specs.Source.{Source}
use Rattle.xmi_profile.specs.WrittenTree.{written_tree}
use Rattle.xmi_profile.proofs.written.Documents.{canon_markup}
use Rattle.xmi_profile.proofs.written.Faultless.{faultless}
use Rattle.xmi_profile.proofs.written.OneModel.{live_too, valid_too, depth_too}
use Rattle.xmi_profile.proofs.written.Reading.{content, few}
use Rattle.xmi_profile.proofs.written.Renumbering.{renumbered, valid_there, depth_there}
use Rattle.xmi_profile.proofs.written.Sources.{source}

-- a valid model breaks no rule
broken_none : (a : ModelData) → Valid a → (kind : BreachKind) (o : ℕ) (prop : Option ℕ) → IsFirst a kind o prop → ⊥
broken_none a v kinds.Lower o (Some p) (few, before) = (v.bounds o p).lower few
broken_none a v kinds.Upper o (Some p) ((enough, many), before) = (v.bounds o p).upper many
broken_none a v kinds.ContainmentCycle o (Some p) (none, before) = none
broken_none a v kind o None (same, least, kept) = v.acyclic o least.cycle

module _ (m : ModelData) (w : MayBeWritten m) where
  abbrev tree_of : Source
  tree_of = source m w.valid w.depth

  none_at : (fault : ModelFault) → IsFirstAt tree_of fault → ⊥
  none_at fault x = (faultless m w.valid w.depth w.held).at fault x.place x.stands

  none_by : (fault : ModelFault) → IsFirstBy tree_of fault → ⊥
  none_by fault x = (faultless m w.valid w.depth w.held).by fault x.spot x.stands

  not_invalid : (breach : Breach) (id : List ℕ) → IsInvalid tree_of breach id → ⊥
  not_invalid breach id x =
      let valid : Valid x.model = valid_too tree_of (renumbered m) x.model (content m w.held w.valid w.depth) x.content x.kept (valid_there m w.valid w.depth) in
      broken_none x.model valid breach.kind breach.object.0 (option_map (λ p. p.0) breach.prop) x.broken

  not_deep : IsTooDeep tree_of → ⊥
  not_deep x =
      let n : ModelData = renumbered m in
      let here : Content tree_of n = content m w.held w.valid w.depth in
      let valid : Valid n = valid_there m w.valid w.depth in
      let same : IsDepth n x.object x.depth = depth_too tree_of n x.model here x.content valid.kept x.valid.kept x.object x.depth x.depth_is in
      let l = depth_there m w.valid w.depth x.object x.depth (live_too tree_of x.model n x.content here x.object x.live) same in
      let deep = x.deep in
      omega (arith, l, deep)

  none_first : (fault : ModelFault) → IsFirstFault tree_of fault → ⊥
  none_first (faults.Limit limits.Objects) x = let l = few m w.held w.valid w.depth w.objects in omega (arith, l, x)
  none_first (faults.Limit limits.Depth) x = not_deep x
  none_first (faults.Invalid breach id) x = not_invalid breach id x
  none_first (faults.UnknownClass name) x = none_at (faults.UnknownClass name) x
  none_first (faults.UnknownProperty id prop) x = none_at (faults.UnknownProperty id prop) x
  none_first (faults.WrongValue id prop) x = none_at (faults.WrongValue id prop) x
  none_first (faults.DuplicateId id) x = none_at (faults.DuplicateId id) x
  none_first (faults.Dangling id prop reference) x = none_by (faults.Dangling id prop reference) x
  none_first (faults.TwoContainers id) x = none_by (faults.TwoContainers id) x
  none_first (faults.Mismatch id prop other other_prop) x = none_by (faults.Mismatch id prop other other_prop) x

  pub not_refused : (fault : ModelFault) → IsRefused m.meta externs.None (canon_bytes m) fault → ⊥
  not_refused fault x =
      let markup : Markup (canon_bytes m) (written_tree m) = canon_markup m w.held w.valid.kept in
      let same : x.tree ≡ written_tree m = one_spelled (canon_bytes m) x.tree (written_tree m) (markup_spelled (canon_bytes m) x.tree x.markup) (markup_spelled (canon_bytes m) (written_tree m) markup) in
      none_first fault (subst (λ (t : Tree). IsFirstFault (source_of m.meta externs.None t) fault) same x.first)
