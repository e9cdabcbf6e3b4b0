use Rattle.std.proofs.Common.{◌≡◌, ◌≤◌, map, take}
use Rattle.std.specs.Prelude.{IfSome}
use Rattle.std.specs.List.{AllZip}
use Rattle.qvtr_engine.specs.CheckView.{bound_view}
use Rattle.qvtr_engine.specs.CheckedNames.{name_of}
use Rattle.qvtr_engine.specs.CheckedModels.{IsModel}
use Rattle.qvtr_engine.specs.FoundFiles.{items_of, names_of}
use Rattle.qvtr_engine.specs.ReadModels.{AreRead}
use Rattle.qvtr_engine.specs.Target.{IsFormAmong}
use Rattle.qvtr_engine.proofs.reading_inputs.models_at.Given as goal

-- the models of the files so far were read, the form is the target's where its file was among them, and the vault's files are as they were
abbrev pub invariant-loop-i : goal.invariant-loop-i
invariant-loop-i g l =
    let told = g.F.Vault.files in
    let faults = g.F.Vault.faults in
    record {
      same_files : told l.vault ≡ told l.fn.vault;
      later : faults l.fn.vault ≤ faults l.vault;
      names : names_of l.found.items ≡ map name_of (take l.i (map bound_view l.files));
      all : IfSome (told l.fn.vault) (λ files. AllZip (IsModel files l.script l.numbered) (take l.i (map bound_view l.files)) (items_of l.found.items));
      form : IfSome (told l.fn.vault) (λ files. IsFormAmong files (take l.i (map bound_view l.files)) l.target l.form);
      read : AreRead l.script l.numbered l.found.items;
    }
