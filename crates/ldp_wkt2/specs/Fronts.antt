-- What stands before a parameter, as the private functions of the reader go past it.
use Rattle.std.specs.Prelude.{ℕ, List}
use Rattle.ldp_wkt2.specs.declared.past.Front.{Front}
use Rattle.ldp_wkt2.specs.declared.past.Front.TheVariants.{Method, Value}
use Rattle.ldp_wkt2.specs.Lines.{method_text, behind}

-- the text in front of a parameter: a method from its name on, or what follows a value
abbrev pub front_text : Front → List ℕ
front_text (Method kind) = method_text kind
front_text (Value p) = behind p
