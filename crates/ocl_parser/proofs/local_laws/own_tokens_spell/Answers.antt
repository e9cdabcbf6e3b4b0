use Rattle.ocl_parser.proofs.Local.{spelled_end, spelled_cut}
use Rattle.ocl_parser.proofs.local_laws.own_tokens_spell.Goals as goal

pub returns : goal.returns
returns c = record {
  end = λ ts levels e from end s. spelled_end ts levels e from end s;
  cut = λ ts levels e from end k s few. spelled_cut ts levels e from end k s few;
}
