-- The lines of the input, and why it gives none.
--     LacksFeed s        the line s has no line feed
--     input_fault k      the fault that an error of the kind k becomes
--     fault_of f         why the input gives no lines, where f kept them from being listed
use Rattle.std.specs.Prelude.{◌≢◌, All, String, string_bytes}
use Rattle.std.specs.declared.alloc.Global.{Global}
use Rattle.std.specs.declared.io.ErrorKind.{ErrorKind}
use Rattle.std.specs.declared.io.ErrorKind.TheVariants.{OutOfMemory, InvalidData}
use Rattle.texts.specs.declared.input.InputFault.{InputFault}
use Rattle.texts.specs.declared.input.InputFault.TheVariants.{NoText, Unread, Memory}
use Rattle.texts.specs.declared.input.LinesFault.{LinesFault}
use Rattle.texts.specs.declared.input.LinesFault.TheVariants as kept

abbrev pub LacksFeed : String Global → Type 0
LacksFeed s = All (λ b. b ≢ 10) (string_bytes s)

abbrev pub input_fault : ErrorKind → InputFault
input_fault OutOfMemory = Memory
input_fault InvalidData = NoText
input_fault k = Unread

abbrev pub fault_of : LinesFault → InputFault
fault_of (kept.Reader f) = f
fault_of (kept.Line f) = f
fault_of kept.List = Memory
