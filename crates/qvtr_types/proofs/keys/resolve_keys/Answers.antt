use Rattle.std.proofs.Common.{◌≡◌, List, Bor, map, length, sym, ap, subst, ◌∙◌}
use Rattle.std.specs.Prelude.{AllPairs}
use Rattle.std.proofs.lemmas.List.{length-map}
use Rattle.std.proofs.lemmas.Result.{err_from_is_err_and}
use Rattle.qv_syntax.specs.declared.script.KeyTree.{KeyTree}
use Rattle.qv_syntax.specs.declared.program.Key.{Key}
use Rattle.qv_syntax.specs.Keys.{AreOfTwoClasses}
use Rattle.ocl_types.proofs.QueryLemmas.{err_told}
use Rattle.script_scopes.specs.Declarations.{keys_of}
use Rattle.script_scopes.specs.Keys.{IsKey, StandsInKeys}
use Rattle.qvtr_types.specs.KeySearches.{AreEachKeys, StandsInOneKey, IsSecondFault}
use Rattle.qvtr_types.proofs.ZipLemmas.{zip_length}
use Rattle.qvtr_types.proofs.KeyLaws.{one_key_stands, second_stands, all_keys}
use Rattle.qvtr_types.proofs.KeyMeaning.{keys_are_meant, no_keys_fault}
use Rattle.qvtr_types.proofs.keys.resolve_keys.Goals as goal

abbrev shown : List (Bor KeyTree) → List KeyTree
shown ts = map {A = Bor KeyTree} {B = KeyTree} (λ t. t.now) ts

pub returns-in_err-keys-clause-fault : goal.returns-in_err-keys-clause-fault
returns-in_err-keys-clause-fault c =
    let trees : shown c.as_slice.result.now ≡ keys_of c.args.script.now = ap shown c.as_slice.ensures ∙ c.in_ok-trees.ensures in
    let p = err_from_is_err_and c.from_residual-in_err-keys.result c.from_residual-in_err-keys.ensures.1 in
    err_told c.from_residual-in_err-keys.result p.0 _ (StandsInKeys c.args.env.now (keys_of c.args.script.now)) (StandsInOneKey c.args.env.now (shown c.as_slice.result.now)) p.1 p.2
    (λ f h. one_key_stands c.args.env.now (keys_of c.args.script.now) f (subst (λ (ts : List KeyTree). StandsInOneKey c.args.env.now ts f) trees h))
    c.in_err-keys.ensures.fault

pub refuse_second-requires : goal.refuse_second-requires
refuse_second-requires c =
    ap (λ (ts : List (Bor KeyTree)). length ts) (c.as_slice-2.ensures ∙ sym c.as_slice.ensures) ∙ sym (length-map {A = Bor KeyTree} {B = KeyTree} c.as_slice.result.now (λ t. t.now))
    ∙ zip_length (IsKey c.args.env.now) (shown c.as_slice.result.now) c.in_ok-keys.keys c.in_ok-keys.ensures.are.each ∙ ap (λ (ks : List Key). length ks) (sym c.as_slice-3.ensures)

pub returns-in_err-refuse_second-clause-fault : goal.returns-in_err-refuse_second-clause-fault
returns-in_err-refuse_second-clause-fault c =
    let trees : shown c.as_slice.result.now ≡ keys_of c.args.script.now = ap shown c.as_slice.ensures ∙ c.in_ok-trees.ensures in
    let again : shown c.as_slice-2.result.now ≡ keys_of c.args.script.now = ap shown c.as_slice-2.ensures ∙ c.in_ok-trees.ensures in
    let are : AreEachKeys c.args.env.now (keys_of c.args.script.now) c.in_ok-keys.keys = subst (λ (ts : List KeyTree). AreEachKeys c.args.env.now ts c.in_ok-keys.keys) trees c.in_ok-keys.ensures.are in
    let p = err_from_is_err_and c.from_residual-in_err-refuse_second.result c.from_residual-in_err-refuse_second.ensures.1 in
    err_told c.from_residual-in_err-refuse_second.result p.0 _ (StandsInKeys c.args.env.now (keys_of c.args.script.now)) (IsSecondFault (shown c.as_slice-2.result.now) c.as_slice-3.result.now) p.1 p.2
    (λ f h. second_stands c.args.env.now (keys_of c.args.script.now) c.in_ok-keys.keys are.each f
    (subst (λ (ks : List Key). IsSecondFault (keys_of c.args.script.now) ks f) c.as_slice-3.ensures (subst (λ (ts : List KeyTree). IsSecondFault ts c.as_slice-3.result.now f) again h)))
    c.in_err-refuse_second.ensures.fault

pub returns-clause-are : goal.returns-clause-are
returns-clause-are c =
    all_keys c.args.env.now (keys_of c.args.script.now) c.in_ok-keys.keys
    (subst (λ (ts : List KeyTree). AreEachKeys c.args.env.now ts c.in_ok-keys.keys) (ap shown c.as_slice.ensures ∙ c.in_ok-trees.ensures) c.in_ok-keys.ensures.are)
    (subst (AllPairs AreOfTwoClasses) c.as_slice-3.ensures c.in_ok-refuse_second.ensures.apart)

pub returns-clause-meant : goal.returns-clause-meant
returns-clause-meant c =
    keys_are_meant c.args.env.now (keys_of c.args.script.now) c.in_ok-keys.keys
    (subst (λ (ts : List KeyTree). AreEachKeys c.args.env.now ts c.in_ok-keys.keys) (ap shown c.as_slice.ensures ∙ c.in_ok-trees.ensures) c.in_ok-keys.ensures.are)
    (subst (AllPairs AreOfTwoClasses) c.as_slice-3.ensures c.in_ok-refuse_second.ensures.apart)

pub returns-clause-none : goal.returns-clause-none
returns-clause-none c =
    no_keys_fault c.args.env.now (keys_of c.args.script.now) c.in_ok-keys.keys
    (all_keys c.args.env.now (keys_of c.args.script.now) c.in_ok-keys.keys
    (subst (λ (ts : List KeyTree). AreEachKeys c.args.env.now ts c.in_ok-keys.keys) (ap shown c.as_slice.ensures ∙ c.in_ok-trees.ensures) c.in_ok-keys.ensures.are)
    (subst (AllPairs AreOfTwoClasses) c.as_slice-3.ensures c.in_ok-refuse_second.ensures.apart))
