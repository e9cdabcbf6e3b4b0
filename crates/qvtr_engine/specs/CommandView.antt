-- A command in memory.
use Rattle.qvtr_engine.specs.declared.command.Command.{Command as Request}
use Rattle.qvtr_engine.specs.declared.command.Command.TheVariants.{Execute, Convert, Generate}
use Rattle.qvtr_engine.specs.RequestView.{request_view}
use Rattle.qvtr_engine.specs.ConvertView.{convert_view}
use Rattle.qvtr_engine.specs.Command.{Command, executes, converts, generates}

abbrev pub command_view : Request → Command
command_view (Execute mode r) = executes mode (request_view r)
command_view (Convert r) = converts (convert_view r)
command_view (Generate r) = generates r
