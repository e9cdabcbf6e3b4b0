use Rattle.std.proofs.Common.{List, subst}
use Rattle.std.proofs.lemmas.Result.{on_ok_weaker}
use Rattle.entry_finding.specs.declared.numbered_entry.NumberedEntry.{NumberedEntry}
use Rattle.entry_tops.specs.EntryNames.{HasNamesOf}
use Rattle.entry_tops.proofs.search.append_found.Goals as goal

pub returns : goal.returns
returns c =
    on_ok_weaker c.append_calls.result
    (λ calls. record {
      entries = c.in_ok-append_entries.ensures;
      calls = calls;
      matches = subst (λ (es : List NumberedEntry). HasNamesOf c.args.domains.now es c.args.tops.now.matches c.add_names.new.matches) c.as_slice.ensures c.in_ok-add_names.ensures;
    })
    c.append_calls.ensures
