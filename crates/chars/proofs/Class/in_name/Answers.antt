-- `chars::Class::in_name` meets its contract.
use Rattle.chars.proofs.ClassLaws.{in_name_is}
use Rattle.chars.proofs.Class.in_name.Goals as goal

pub returns : goal.returns
returns c = rw (c.eq.ensures, c.eq-2.ensures, c.eq-3.ensures) (in_name_is c.args.self)
