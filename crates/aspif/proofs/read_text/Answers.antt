use mathlib.Core.Path.{sym, refl, ◌∙◌}
use borrow.Author.Tests.{le-leb, lt-leb}
use Rattle.aspif.specs.Reading.{header, read_lines_within, read_text_within}
use Rattle.text.proofs.Fronts.{front_long}
use Rattle.text.specs.Classes.{byte_classes}
use Rattle.std.proofs.Common.{rules}
use Rattle.aspif.proofs.read_text.Goals as goal

pub returns-then-text-gt-LONGEST : goal.returns-then-text-gt-LONGEST
unfolding read_text_within
returns-then-text-gt-LONGEST c = rw (lt-leb _ _ c.if-text-gt-LONGEST.true) (record { told = refl; front = tt; long = refl })

pub returns-then-not-starts_with : goal.returns-then-not-starts_with
unfolding read_text_within read_lines_within
returns-then-not-starts_with c = rw (le-leb _ _ c.if-text-gt-LONGEST.false, sym c.starts_with.ensures ∙ c.if-not-starts_with.true) (record { told = refl; front = tt; long = refl })

pub read_lines-requires : goal.read_lines-requires
unfolding byte_classes
read_lines-requires c = record {
  header_in_bounds = front_long header c.args.text.now (sym c.starts_with.ensures ∙ c.if-not-starts_with.false);
  classes_value = search rules;
}

pub returns : goal.returns
unfolding read_text_within read_lines_within
returns c = rw (le-leb _ _ c.if-text-gt-LONGEST.false, sym c.starts_with.ensures ∙ c.if-not-starts_with.false) c.read_lines.ensures
