use Rattle.std.proofs.Common.{inl, inr, map}
use Rattle.std.specs.Prelude.{string_bytes}
use Rattle.qvtr_engine.specs.CommandView.{command_view}
use Rattle.qvtr_engine.proofs.CommandLaws.{command_found}
use Rattle.qvtr_engine.proofs.GenRunLaws.{command_in_bounds, generation_read, words_generation}
use Rattle.qvtr_engine.proofs.MendedRunLaws.{all_mended, all_kept, all_enforces}
use Rattle.qvtr_engine.proofs.RunLaws.{words_ends, words_usage, words_finished, words_fault, command_ends, command_not_usage, command_fault, command_files, all_cause, all_only, all_judged, all_verdict, all_converted, all_converts, all_enforced}
use Rattle.qvtr_engine.proofs.top.run.Goals as goal

pub returns-in-Err-clause-ends : goal.returns-in-Err-clause-ends
returns-in-Err-clause-ends g c =
    words_ends (g.F.Vault.files c.args.vault.now) (map string_bytes c.args.words.now) _ _ _ _ c.in-Err.error c.report_words.result c.in-Err.ensures.usage c.report_words.ensures.ends

pub returns-in-Err-clause-cause : goal.returns-in-Err-clause-cause
returns-in-Err-clause-cause g c =
    all_cause (g.F.Vault.files c.args.vault.now) (map string_bytes c.args.words.now) _ _ (g.K.Sink.told c.args.out.now) (g.K.Sink.told c.report_words.new.out) (g.F.Vault.files c.args.vault.now) c.report_words.result
    (words_ends (g.F.Vault.files c.args.vault.now) (map string_bytes c.args.words.now) _ _ _ _ c.in-Err.error c.report_words.result c.in-Err.ensures.usage c.report_words.ensures.ends)

pub returns-in-Err-clause-only : goal.returns-in-Err-clause-only
returns-in-Err-clause-only g c =
    all_only (g.F.Vault.files c.args.vault.now) (map string_bytes c.args.words.now) _ _ (g.K.Sink.told c.args.out.now) (g.K.Sink.told c.report_words.new.out) (g.F.Vault.files c.args.vault.now) c.report_words.result
    (words_ends (g.F.Vault.files c.args.vault.now) (map string_bytes c.args.words.now) _ _ _ _ c.in-Err.error c.report_words.result c.in-Err.ensures.usage c.report_words.ensures.ends)

pub returns-in-Err-clause-judged : goal.returns-in-Err-clause-judged
returns-in-Err-clause-judged g c =
    all_judged (g.F.Vault.files c.args.vault.now) (map string_bytes c.args.words.now) ⊥ _ (g.K.Sink.told c.args.out.now) (g.K.Sink.told c.report_words.new.out) (g.F.Vault.files c.args.vault.now) c.report_words.result
    (words_ends (g.F.Vault.files c.args.vault.now) (map string_bytes c.args.words.now) ⊥ _ _ _ c.in-Err.error c.report_words.result c.in-Err.ensures.usage c.report_words.ensures.ends)

pub returns-in-Err-clause-verdict : goal.returns-in-Err-clause-verdict
returns-in-Err-clause-verdict g c =
    all_verdict (g.F.Vault.files c.args.vault.now) (map string_bytes c.args.words.now) _ _ (g.K.Sink.told c.args.out.now) (g.K.Sink.told c.report_words.new.out) (g.F.Vault.files c.args.vault.now) c.report_words.result
    (words_ends (g.F.Vault.files c.args.vault.now) (map string_bytes c.args.words.now) _ _ _ _ c.in-Err.error c.report_words.result c.in-Err.ensures.usage c.report_words.ensures.ends)

pub returns-in-Err-clause-converted : goal.returns-in-Err-clause-converted
returns-in-Err-clause-converted g c =
    all_converted (g.F.Vault.files c.args.vault.now) (map string_bytes c.args.words.now) ⊥ _ (g.K.Sink.told c.args.out.now) (g.K.Sink.told c.report_words.new.out) (g.F.Vault.files c.args.vault.now) c.report_words.result
    (words_ends (g.F.Vault.files c.args.vault.now) (map string_bytes c.args.words.now) ⊥ _ _ _ c.in-Err.error c.report_words.result c.in-Err.ensures.usage c.report_words.ensures.ends)

pub returns-in-Err-clause-converts : goal.returns-in-Err-clause-converts
returns-in-Err-clause-converts g c =
    all_converts (g.F.Vault.files c.args.vault.now) (map string_bytes c.args.words.now) _ _ (g.K.Sink.told c.args.out.now) (g.K.Sink.told c.report_words.new.out) (g.F.Vault.files c.args.vault.now) c.report_words.result
    (words_ends (g.F.Vault.files c.args.vault.now) (map string_bytes c.args.words.now) _ _ _ _ c.in-Err.error c.report_words.result c.in-Err.ensures.usage c.report_words.ensures.ends)

pub returns-in-Err-clause-enforced : goal.returns-in-Err-clause-enforced
returns-in-Err-clause-enforced g c =
    all_enforced (g.F.Vault.files c.args.vault.now) (map string_bytes c.args.words.now) ⊥ _ (g.K.Sink.told c.args.out.now) (g.K.Sink.told c.report_words.new.out) (g.F.Vault.files c.args.vault.now) c.report_words.result
    (words_ends (g.F.Vault.files c.args.vault.now) (map string_bytes c.args.words.now) ⊥ _ _ _ c.in-Err.error c.report_words.result c.in-Err.ensures.usage c.report_words.ensures.ends)

pub returns-in-Err-clause-mended : goal.returns-in-Err-clause-mended
returns-in-Err-clause-mended g c =
    all_mended c.enforced_files_are_mended.ensures (g.F.Vault.files c.args.vault.now) (map string_bytes c.args.words.now) ⊥ _ (g.K.Sink.told c.args.out.now) (g.K.Sink.told c.report_words.new.out) (g.F.Vault.files c.args.vault.now) c.report_words.result
    (words_ends (g.F.Vault.files c.args.vault.now) (map string_bytes c.args.words.now) ⊥ _ _ _ c.in-Err.error c.report_words.result c.in-Err.ensures.usage c.report_words.ensures.ends)

pub returns-in-Err-clause-kept : goal.returns-in-Err-clause-kept
returns-in-Err-clause-kept g c =
    all_kept c.satisfied_files_are_kept.ensures (g.F.Vault.files c.args.vault.now) (map string_bytes c.args.words.now) ⊥ _ (g.K.Sink.told c.args.out.now) (g.K.Sink.told c.report_words.new.out) (g.F.Vault.files c.args.vault.now) c.report_words.result
    (words_ends (g.F.Vault.files c.args.vault.now) (map string_bytes c.args.words.now) ⊥ _ _ _ c.in-Err.error c.report_words.result c.in-Err.ensures.usage c.report_words.ensures.ends)

pub returns-in-Err-clause-enforces : goal.returns-in-Err-clause-enforces
returns-in-Err-clause-enforces g c =
    all_enforces (g.F.Vault.files c.args.vault.now) (map string_bytes c.args.words.now) _ _ (g.K.Sink.told c.args.out.now) (g.K.Sink.told c.report_words.new.out) (g.F.Vault.files c.args.vault.now) c.report_words.result
    (words_ends (g.F.Vault.files c.args.vault.now) (map string_bytes c.args.words.now) _ _ _ _ c.in-Err.error c.report_words.result c.in-Err.ensures.usage c.report_words.ensures.ends)

pub returns-in-Err-clause-usage : goal.returns-in-Err-clause-usage
returns-in-Err-clause-usage g c =
    let words = map string_bytes c.args.words.now in (
      words_usage words _ _ _ c.in-Err.error c.report_words.result c.in-Err.ensures.usage c.report_words.ensures.ends,
      λ _. words_finished words _ _ _ c.in-Err.error c.report_words.result c.in-Err.ensures.memory c.report_words.ensures.ends,
    )

pub returns-in-Err-clause-generates : goal.returns-in-Err-clause-generates
returns-in-Err-clause-generates g c =
    words_generation (map string_bytes c.args.words.now) _ _ _ c.in-Err.error c.report_words.result c.in-Err.ensures.usage c.report_words.ensures.ends

pub returns-in-Err-clause-fault : goal.returns-in-Err-clause-fault
returns-in-Err-clause-fault g c = λ e. inr (inl (words_fault _ _ _ c.in-Err.error c.report_words.result c.report_words.ensures.ends e))

pub obey-requires : goal.obey-requires
obey-requires g c = command_in_bounds (map string_bytes c.args.words.now) (command_view c.in-Ok.command) c.in-Ok.ensures.ok

pub returns-in-Ok-clause-generates : goal.returns-in-Ok-clause-generates
returns-in-Ok-clause-generates g c =
    λ request is. c.obey.ensures.generates request (generation_read (map string_bytes c.args.words.now) (command_view c.in-Ok.command) request c.in-Ok.ensures.ok is)

pub returns-in-Ok-clause-ends : goal.returns-in-Ok-clause-ends
returns-in-Ok-clause-ends g c =
    let words = map string_bytes c.args.words.now in
    let command = command_view c.in-Ok.command in
    command_ends (g.F.Vault.files c.args.vault.now) words command _ _ _ _ _ c.obey.result (command_found words command c.in-Ok.ensures.ok) c.obey.ensures.ends

pub returns-in-Ok-clause-cause : goal.returns-in-Ok-clause-cause
returns-in-Ok-clause-cause g c =
    let words = map string_bytes c.args.words.now in
    let command = command_view c.in-Ok.command in
    all_cause (g.F.Vault.files c.args.vault.now) words _ _ (g.K.Sink.told c.args.out.now) (g.K.Sink.told c.obey.new.out) (g.F.Vault.files c.obey.new.vault) c.obey.result
    (command_ends (g.F.Vault.files c.args.vault.now) words command _ _ _ _ _ c.obey.result (command_found words command c.in-Ok.ensures.ok) c.obey.ensures.ends)

pub returns-in-Ok-clause-only : goal.returns-in-Ok-clause-only
returns-in-Ok-clause-only g c =
    let words = map string_bytes c.args.words.now in
    let command = command_view c.in-Ok.command in
    all_only (g.F.Vault.files c.args.vault.now) words _ _ (g.K.Sink.told c.args.out.now) (g.K.Sink.told c.obey.new.out) (g.F.Vault.files c.obey.new.vault) c.obey.result
    (command_ends (g.F.Vault.files c.args.vault.now) words command _ _ _ _ _ c.obey.result (command_found words command c.in-Ok.ensures.ok) c.obey.ensures.ends)

pub returns-in-Ok-clause-judged : goal.returns-in-Ok-clause-judged
returns-in-Ok-clause-judged g c =
    let words = map string_bytes c.args.words.now in
    let command = command_view c.in-Ok.command in
    all_judged (g.F.Vault.files c.args.vault.now) words _ _ (g.K.Sink.told c.args.out.now) (g.K.Sink.told c.obey.new.out) (g.F.Vault.files c.obey.new.vault) c.obey.result
    (command_ends (g.F.Vault.files c.args.vault.now) words command _ _ _ _ _ c.obey.result (command_found words command c.in-Ok.ensures.ok) c.obey.ensures.ends)

pub returns-in-Ok-clause-verdict : goal.returns-in-Ok-clause-verdict
returns-in-Ok-clause-verdict g c =
    let words = map string_bytes c.args.words.now in
    let command = command_view c.in-Ok.command in
    all_verdict (g.F.Vault.files c.args.vault.now) words _ _ (g.K.Sink.told c.args.out.now) (g.K.Sink.told c.obey.new.out) (g.F.Vault.files c.obey.new.vault) c.obey.result
    (command_ends (g.F.Vault.files c.args.vault.now) words command _ _ _ _ _ c.obey.result (command_found words command c.in-Ok.ensures.ok) c.obey.ensures.ends)

pub returns-in-Ok-clause-converted : goal.returns-in-Ok-clause-converted
returns-in-Ok-clause-converted g c =
    let words = map string_bytes c.args.words.now in
    let command = command_view c.in-Ok.command in
    all_converted (g.F.Vault.files c.args.vault.now) words _ _ (g.K.Sink.told c.args.out.now) (g.K.Sink.told c.obey.new.out) (g.F.Vault.files c.obey.new.vault) c.obey.result
    (command_ends (g.F.Vault.files c.args.vault.now) words command _ _ _ _ _ c.obey.result (command_found words command c.in-Ok.ensures.ok) c.obey.ensures.ends)

pub returns-in-Ok-clause-converts : goal.returns-in-Ok-clause-converts
returns-in-Ok-clause-converts g c =
    let words = map string_bytes c.args.words.now in
    let command = command_view c.in-Ok.command in
    all_converts (g.F.Vault.files c.args.vault.now) words _ _ (g.K.Sink.told c.args.out.now) (g.K.Sink.told c.obey.new.out) (g.F.Vault.files c.obey.new.vault) c.obey.result
    (command_ends (g.F.Vault.files c.args.vault.now) words command _ _ _ _ _ c.obey.result (command_found words command c.in-Ok.ensures.ok) c.obey.ensures.ends)

pub returns-in-Ok-clause-enforced : goal.returns-in-Ok-clause-enforced
returns-in-Ok-clause-enforced g c =
    let words = map string_bytes c.args.words.now in
    let command = command_view c.in-Ok.command in
    all_enforced (g.F.Vault.files c.args.vault.now) words _ _ (g.K.Sink.told c.args.out.now) (g.K.Sink.told c.obey.new.out) (g.F.Vault.files c.obey.new.vault) c.obey.result
    (command_ends (g.F.Vault.files c.args.vault.now) words command _ _ _ _ _ c.obey.result (command_found words command c.in-Ok.ensures.ok) c.obey.ensures.ends)

pub returns-in-Ok-clause-mended : goal.returns-in-Ok-clause-mended
returns-in-Ok-clause-mended g c =
    let words = map string_bytes c.args.words.now in
    let command = command_view c.in-Ok.command in
    all_mended c.enforced_files_are_mended.ensures (g.F.Vault.files c.args.vault.now) words _ _ (g.K.Sink.told c.args.out.now) (g.K.Sink.told c.obey.new.out) (g.F.Vault.files c.obey.new.vault) c.obey.result
    (command_ends (g.F.Vault.files c.args.vault.now) words command _ _ _ _ _ c.obey.result (command_found words command c.in-Ok.ensures.ok) c.obey.ensures.ends)

pub returns-in-Ok-clause-kept : goal.returns-in-Ok-clause-kept
returns-in-Ok-clause-kept g c =
    let words = map string_bytes c.args.words.now in
    let command = command_view c.in-Ok.command in
    all_kept c.satisfied_files_are_kept.ensures (g.F.Vault.files c.args.vault.now) words _ _ (g.K.Sink.told c.args.out.now) (g.K.Sink.told c.obey.new.out) (g.F.Vault.files c.obey.new.vault) c.obey.result
    (command_ends (g.F.Vault.files c.args.vault.now) words command _ _ _ _ _ c.obey.result (command_found words command c.in-Ok.ensures.ok) c.obey.ensures.ends)

pub returns-in-Ok-clause-enforces : goal.returns-in-Ok-clause-enforces
returns-in-Ok-clause-enforces g c =
    let words = map string_bytes c.args.words.now in
    let command = command_view c.in-Ok.command in
    all_enforces (g.F.Vault.files c.args.vault.now) words _ _ (g.K.Sink.told c.args.out.now) (g.K.Sink.told c.obey.new.out) (g.F.Vault.files c.obey.new.vault) c.obey.result
    (command_ends (g.F.Vault.files c.args.vault.now) words command _ _ _ _ _ c.obey.result (command_found words command c.in-Ok.ensures.ok) c.obey.ensures.ends)

pub returns-in-Ok-clause-usage : goal.returns-in-Ok-clause-usage
returns-in-Ok-clause-usage g c =
    let words = map string_bytes c.args.words.now in
    let command = command_view c.in-Ok.command in (
      λ e. absurd (command_not_usage _ command _ _ _ _ _ c.obey.result c.obey.ensures.ends e),
      λ u. absurd (u command (command_found words command c.in-Ok.ensures.ok)),
    )

pub returns-in-Ok-clause-fault : goal.returns-in-Ok-clause-fault
returns-in-Ok-clause-fault g c =
    let words = map string_bytes c.args.words.now in
    let command = command_view c.in-Ok.command in
    command_fault (g.F.Vault.files c.args.vault.now) words command _ _ _ _ _ c.obey.result (command_found words command c.in-Ok.ensures.ok) c.obey.ensures.ends

pub returns-in-Ok-clause-files : goal.returns-in-Ok-clause-files
returns-in-Ok-clause-files g c =
    let words = map string_bytes c.args.words.now in
    let command = command_view c.in-Ok.command in
    command_files (g.F.Vault.files c.args.vault.now) words command _ _ _ _ _ c.obey.result (command_found words command c.in-Ok.ensures.ok) c.obey.ensures.ends
