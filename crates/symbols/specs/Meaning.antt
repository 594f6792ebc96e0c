-- What `Symbol::from` a word gives, in the model's terms.
use Rattle.model.specs.Tree.{of_tag, of_text, of_nothing}
use Rattle.model.specs.Tree as model
use Rattle.model.specs.Bytes.{text_kind}
use Rattle.symbols.specs.declared.Symbol.{Symbol}
use Rattle.symbols.specs.declared.Symbol.TheVariants.{Tag, Text, Nothing}

abbrev pub meaning : Symbol → model.Symbol
meaning (Tag a) = of_tag a
meaning (Text k) = of_text (text_kind k)
meaning Nothing = of_nothing
