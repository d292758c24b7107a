-- What of the lines before decides which may stand next.
use Rattle.std.specs.Prelude.{false, List, count_by}
use Rattle.pc_cert.specs.Order.{LineKind, has, is_text, is_heading, is_claim, is_on_sets, is_before_entries, has_value_since, is_numbered, is_end}
use Rattle.pc_cert.specs.declared.order.Order.{Order}

abbrev pub order_of : List LineKind → Order
order_of before = record {
  some = has is_text before;
  heading = has is_heading before;
  claim = has is_claim before;
  sets = has is_on_sets before;
  entries = has is_before_entries before;
  value = has_value_since false before;
  derivation = has is_numbered before;
  end = has is_end before;
  last = count_by is_numbered before;
}
