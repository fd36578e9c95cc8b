-- Why a job, or a step of it, is refused.
--     number f           the number of a refusal
--     word f             the word of the strip that it is told with, if there is one
--     layer f            the layer that refuses
--     layer_name l       the name of a layer
use Rattle.std.specs.Prelude.{ℕ, List, codes, Some, None, Option}
use Rattle.strips.specs.Faults as strips
use Rattle.masks.specs.Faults as masks
use Rattle.morphology.specs.Refusals as worksheets
use Rattle.jobs.specs.declared.fault.Layer as layers
use Rattle.jobs.specs.declared.fault.JobFault.{JobFault}
use Rattle.jobs.specs.declared.fault.JobFault.TheVariants.{Strip, Mask, Worksheet}

-- 1 to 6 of a strip, 7 and 8 of a mask, 9 to 11 of a filter
abbrev pub number : JobFault → ℕ
number (Strip f) = strips.number f
number (Mask f) = masks.number f.fault
number (Worksheet r) = worksheets.number r

-- words count from 0; a filter is told by its own line
abbrev pub word : JobFault → Option ℕ
word (Strip f) = Some (strips.told_word f)
word (Mask f) = Some f.word
word (Worksheet r) = None

abbrev pub layer : JobFault → layers.Layer
layer (Strip f) = layers.TheVariants.Strip
layer (Mask f) = layers.TheVariants.Mask
layer (Worksheet r) = layers.TheVariants.Worksheet

abbrev pub layer_name : layers.Layer → List ℕ
layer_name layers.TheVariants.Strip = codes "strip"
layer_name layers.TheVariants.Mask = codes "mask"
layer_name layers.TheVariants.Worksheet = codes "worksheet"
