-- The code's encodings as those of the definitions.
use Rattle.yaml_encoding.specs.Decoding.{Encoding, utf_8, utf_16_little, utf_16_big}
use Rattle.yaml_encoding.specs.declared.encoding.Encoding.{Encoding as Read}
use Rattle.yaml_encoding.specs.declared.encoding.Encoding.TheVariants.{Utf8, Utf16}
use Rattle.yaml_encoding.specs.declared.utf_16.ByteOrder.{ByteOrder}
use Rattle.yaml_encoding.specs.declared.utf_16.ByteOrder.TheVariants.{Little, Big}

-- UTF-16 in an order of bytes
abbrev pub utf_16_of : ByteOrder → Encoding
utf_16_of Little = utf_16_little
utf_16_of Big = utf_16_big

-- the encoding that the code means
abbrev pub encoding_of : Read → Encoding
encoding_of Utf8 = utf_8
encoding_of (Utf16 order) = utf_16_of order
