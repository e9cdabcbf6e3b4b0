-- The metamodel of each model of a script is one that the script names.
use Rattle.std.proofs.Common.{◌≡◌, true, length, subst}
use Rattle.std.specs.Prelude.{IsTrue, nat_lt}
use Rattle.std.proofs.lemmas.Bool.{lt-ltb}
use Rattle.mof_metamodel.proofs.SearchLemmas.{passes_all}
use Rattle.qv_syntax.specs.declared.query.ModelSlot.{ModelSlot}
use Rattle.qv_syntax.specs.declared.script.ModelTree.{ModelTree}
use Rattle.qv_syntax.specs.declared.script.Script.{Script}
use Rattle.ocl_environments.specs.Environments.{have_metas}
use Rattle.script_scopes.specs.ScriptNames.{meta_names}
use Rattle.script_scopes.specs.Environments.{metamodel_names, place_of, slot_of, slots_of}
use Rattle.script_scopes.proofs.MemberLemmas.{once_has, from_map, to_map}
use Rattle.qvtr_types.proofs.well_formed.Numbers.{place_within}

pub slots_placed : (script : Script) → IsTrue (have_metas (slots_of script) (length (metamodel_names script)))
slots_placed script = passes_all (λ (slot : ModelSlot). nat_lt slot.meta (length (metamodel_names script))) (slots_of script) (λ slot among.
    let (m, has, is) = from_map (slot_of script) script.models slot among in
    let named = once_has (meta_names script.models) m.meta.text (to_map (λ (m : ModelTree). m.meta.text) script.models m has) in
    subst (λ (x : ModelSlot). nat_lt x.meta (length (metamodel_names script)) ≡ true) is
    (lt-ltb (place_of m.meta.text (metamodel_names script)) (length (metamodel_names script)) (place_within (metamodel_names script) m.meta.text named)))
