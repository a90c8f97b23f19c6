-- How a fault of heights is told: by its name and its values, each after a blank. Own choice of
-- this project.
use Rattle.std.specs.Prelude.{ℕ, List, ◌++◌, decimal, codes}
use Rattle.ldp_heights.specs.declared.fault.Word.{Word}
use Rattle.ldp_heights.specs.declared.fault.Word.TheVariants as words
use Rattle.ldp_heights.specs.declared.fault.HeightFault.{HeightFault}
use Rattle.ldp_heights.specs.declared.fault.HeightFault.TheVariants as faults

-- a word of the header; both forms of a coordinate are one
abbrev pub word_name : Word → List ℕ
word_name words.Ncols = codes "Ncols"
word_name words.Nrows = codes "Nrows"
word_name words.X = codes "X"
word_name words.Y = codes "Y"
word_name words.Cellsize = codes "Cellsize"
word_name words.Nodata = codes "Nodata"

-- a fault of heights, with the word, its place in bytes from 0, or the number of heights found
abbrev pub height_fault_text : HeightFault → List ℕ
height_fault_text (faults.MissingWord word) = codes "MissingWord " ++ word_name word
height_fault_text (faults.UnknownWord place) = codes "UnknownWord " ++ decimal place
height_fault_text (faults.RepeatedWord place) = codes "RepeatedWord " ++ decimal place
height_fault_text (faults.BadNumber place) = codes "BadNumber " ++ decimal place
height_fault_text (faults.OutOfRange place) = codes "OutOfRange " ++ decimal place
height_fault_text faults.TooMany = codes "TooMany"
height_fault_text (faults.TooFew found) = codes "TooFew " ++ decimal found
height_fault_text (faults.Trailing place) = codes "Trailing " ++ decimal place
height_fault_text faults.Memory = codes "Memory"
