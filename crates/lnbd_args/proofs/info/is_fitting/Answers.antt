use Rattle.std.proofs.Common.{◌∙◌, ◌&&◌, ◌||◌, not, Bool, codes, refl, sym}
use Rattle.lnbd_args.proofs.info.is_fitting.Goals as goal

abbrev fits_by : Bool → Bool → Bool → Bool → Bool → Bool → Bool → Bool
fits_by map totals context json size is can = (map || not (totals || context)) && (not json || not ((size || is) || can))

pub returns : goal.returns
returns c parts t =
    let m = c.is_given-map.ensures ∙ t.flag (codes "map") _ refl refl in
    let o = c.is_given-totals.ensures ∙ t.flag (codes "totals") _ refl refl in
    let x = c.has_value-context.ensures ∙ sym (t.given (codes "context") _ refl refl) in
    let j = c.is_given-json.ensures ∙ t.flag (codes "json") _ refl refl in
    let s = c.is_given-size.ensures ∙ t.flag (codes "size") _ refl refl in
    let i = c.has_value-is.ensures ∙ sym (t.given (codes "is") _ refl refl) in
    let k = c.has_value-can.ensures ∙ sym (t.given (codes "can") _ refl refl) in
    λ d. fits_by (m d) (o d) (x d) (j d) (s d) (i d) (k d)
