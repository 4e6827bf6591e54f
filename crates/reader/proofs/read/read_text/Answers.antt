use Rattle.std.proofs.Common.{subst}
use Rattle.reader.specs.Entries.{Enters}
use Rattle.reader.specs.Texts.{too_long}
use Rattle.reader.proofs.TextLaws.{stops_text}
use Rattle.reader.proofs.SizeLaws.{refused, sized_text}
use Rattle.reader.proofs.read.read_text.Goals as goal

pub returns-then-source-gt-MOST_BYTES : goal.returns-then-source-gt-MOST_BYTES
returns-then-source-gt-MOST_BYTES c = too_long c.if-source-gt-MOST_BYTES.true

pub returns-in_err-root : goal.returns-in_err-root
returns-in_err-root c =
    refused c.args.source.now _ c.from_residual.result _ c.from_residual.ensures.1 (stops_text _ _ c.in_err-root.field-0.0 c.if-source-gt-MOST_BYTES.false c.in_err-root.ensures)

pub returns : goal.returns
returns c =
    let h = c.in_ok-root.ensures in
    sized_text c.args.source.now _ h.0 c.if-source-gt-MOST_BYTES.false h.1 c.measured.result (c.measured.ensures h.0 (subst (λ ps. Enters ps h.0 c.whole.new.table c.in_ok-root.root) c.requires h.2))
