use Rattle.repair_laws.proofs.MatchedRoots.{matched_root}
use Rattle.repair_laws.proofs.entries.universal_terms_have_matches.Goals as goal

pub returns : goal.returns
returns c = λ metas program sources number rel formed enforceable found direction b matches whens entries v t u at.
    let h = matched_root metas program formed enforceable sources number rel found direction b matches whens entries v t u at in
    (h.match, h.callee, h.dom.root, h.among, h.found_callee, h.root)
