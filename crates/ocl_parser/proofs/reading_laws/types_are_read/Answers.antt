use Rattle.ocl_parser.proofs.ReadingComplete.{path_reads, type_reads}
use Rattle.ocl_parser.proofs.ReadingFound.{path_found, type_found}
use Rattle.ocl_parser.proofs.reading_laws.types_are_read.Goals as goal

pub returns : goal.returns
returns c = record {
  path_found = λ ts levels from end p e. path_found ts from (p, end) e levels;
  path_only = λ ts levels from end p e follows. (path_reads ts p levels from end e follows).read;
  type_found = λ ts levels from end t e. type_found ts levels from (t, end) e;
  type_only = λ ts levels from end t e follows. (type_reads t ts levels from end e follows).read;
}
