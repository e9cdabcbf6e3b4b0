-- What an error of clap comes to: memory could not be had, or the words aren't of the command's form.
use Rattle.clap.specs.declared.error.kind.ErrorKind.{ErrorKind}
use Rattle.clap.specs.declared.error.kind.ErrorKind.TheVariants as kind
use Rattle.command_words.specs.declared.reading.WordsError.{WordsError}
use Rattle.command_words.specs.declared.reading.WordsError.TheVariants.{Usage, NoMemory}

abbrev pub cause_of : ErrorKind → WordsError
cause_of kind.OutOfMemory = NoMemory
cause_of _ = Usage
