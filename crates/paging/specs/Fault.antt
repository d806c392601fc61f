-- What a map's fault tells: number, layer, place and text.
use Rattle.std.specs.Prelude.{ℕ, List, ◌++◌, codes, decimal}
use Rattle.base.specs.declared.layer.Layer.{Layer}
use Rattle.base.specs.declared.layer.Layer.TheVariants.{Map}
use Rattle.paging.specs.declared.fault.MapFault.{MapFault}
use Rattle.paging.specs.declared.fault.MapFault.TheVariants.{NoFrame, OutOfRange}

abbrev pub fault_number : MapFault → ℕ
fault_number (NoFrame page) = 6
fault_number (OutOfRange page) = 9

abbrev pub fault_layer : MapFault → Layer
fault_layer (NoFrame page) = Map
fault_layer (OutOfRange page) = Map

-- the page that was asked for
abbrev pub fault_place : MapFault → ℕ
fault_place (NoFrame page) = page.0
fault_place (OutOfRange page) = page.0

-- why it refuses, in words
abbrev pub reason : MapFault → List ℕ
reason (NoFrame page) = codes "the page has no frame"
reason (OutOfRange page) = codes "process, page or frame is out of range"

-- its text
abbrev pub fault_text : MapFault → List ℕ
fault_text f = codes "page " ++ (decimal (fault_place f) ++ (codes ", number " ++ (decimal (fault_number f) ++ (codes ": " ++ reason f))))
