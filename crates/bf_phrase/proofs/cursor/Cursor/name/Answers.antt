use Rattle.bf_phrase.proofs.Places.{no_name}
use Rattle.bf_phrase.proofs.cursor.Cursor.name.Goals as goal

pub returns-in_default : goal.returns-in_default
returns-in_default c = record {
  found = no_name c.args.self c.in-Some.behind c.in-Some.first c.in-Some.ensures.next c.in_default.not-Name;
  place = tt;
  shorter = tt;
}
