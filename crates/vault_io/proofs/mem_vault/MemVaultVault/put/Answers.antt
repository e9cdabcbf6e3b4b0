use Rattle.std.proofs.Common.{◌≡◌, false, sym, ap, ◌∙◌}
use Rattle.std.specs.Prelude.{Result, Ok, Err, OnOk, Some}
use Rattle.std.specs.Result.{is_err}
use Rattle.std.specs.FinMap.{insert}
use Rattle.vault_io.proofs.mem_vault.MemVaultVault.put.Goals as goal

-- what is said where there is no error
said : {T E : Type 0} (r : Result T E) (P : Type 0) → is_err r ≡ false → OnOk r P → P
said (Ok x) P fine h = h
said (Err e) P fine h = absurd cc

pub returns-clause-whole : goal.returns-clause-whole
returns-clause-whole c =
    said c.put_first.result _ (sym c.is_err.ensures.value ∙ c.if-is_err.false) c.put_first.ensures.ok
    ∙ ap (λ v. insert v.files c.args.name.now c.args.bytes.now) c.self.view_is

pub returns-clause-ok : goal.returns-clause-ok
returns-clause-ok c =
    ap Some (said c.put_first.result _ (sym c.is_err.ensures.value ∙ c.if-is_err.false) c.put_first.ensures.ok
    ∙ ap (λ v. insert v.files c.args.name.now c.args.bytes.now) c.self.view_is)
