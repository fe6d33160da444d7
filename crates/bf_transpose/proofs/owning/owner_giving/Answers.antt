use Rattle.std.proofs.Common.{◌≡◌, ◌∷◌, [], true, false, cond, Some, None, sym, ap, ◌∙◌}
use Rattle.bf_image.specs.Migrations.{target_at}
use Rattle.bf_transpose.proofs.Owners.{is_picked, owner_picked}
use Rattle.bf_transpose.proofs.owning.owner_giving.Goals as goal

-- no granule owns the key
pub returns-in_default : goal.returns-in_default
returns-in_default c =
    let m = c.args.migration.now in
    let t = target_at m c.args.target in
    c.new.ensures.items
    ∙ owner_picked m c.requires.lawful c.args.table.now t c.requires.made c.args.cond.now c.args.key.now c.requires.fixed None (sym c.in_default.is ∙ c.in_ok-granule.ensures)

pub returns-then-branch : goal.returns-then-branch
returns-then-branch c =
    let m = c.args.migration.now in
    let t = target_at m c.args.target in
    let g = c.in-Some.granule in
    let is : is_picked m c.requires.lawful c.args.table.now t c.requires.made c.args.cond.now g ≡ true = sym c.in_ok-gives.ensures ∙ c.if-branch.true in
    c.in_ok-vec.ensures.items ∙ ap (λ b. cond b (g ∷ []) []) (sym is)
    ∙ owner_picked m c.requires.lawful c.args.table.now t c.requires.made c.args.cond.now c.args.key.now c.requires.fixed (Some g) (sym c.in-Some.is ∙ c.in_ok-granule.ensures)

pub returns : goal.returns
returns c =
    let m = c.args.migration.now in
    let t = target_at m c.args.target in
    let g = c.in-Some.granule in
    let is : is_picked m c.requires.lawful c.args.table.now t c.requires.made c.args.cond.now g ≡ false = sym c.in_ok-gives.ensures ∙ c.if-branch.false in
    c.new-2.ensures.items ∙ ap (λ b. cond b (g ∷ []) []) (sym is)
    ∙ owner_picked m c.requires.lawful c.args.table.now t c.requires.made c.args.cond.now c.args.key.now c.requires.fixed (Some g) (sym c.in-Some.is ∙ c.in_ok-granule.ensures)
