use Rattle.avp_unlang.specs.Resolutions.{StateFits}
use Rattle.radpolicy_page_data.proofs.Writings.{what_came_fits}
use Rattle.radpolicy_page_data.proofs.positions.write_position.Goals as goal

pub push_position-requires : goal.push_position-requires
push_position-requires c =
    let d = c.args.redaction.now.dictionary in
    let lists = c.in_ok-lists.lists in
    let fits : StateFits d lists = rw (c.in_ok-lists.ensures, c.requires.dictionary) c.store.ensures.fits in
    what_came_fits d c.take_mark-mark.result c.args.written.now.lists lists c.difference_of-difference.result c.difference_of-difference.ensures fits
