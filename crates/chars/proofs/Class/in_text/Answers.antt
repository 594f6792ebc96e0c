-- `chars::Class::in_text` meets its contract.
use Rattle.chars.proofs.ClassLaws.{in_text_is}
use Rattle.chars.proofs.Class.in_text.Goals as goal

pub returns : goal.returns
returns c = rw (c.ne.ensures, c.ne-2.ensures, c.ne-3.ensures) (in_text_is c.args.self)
